-- `next`: one candidate ends it.
use mathlib.Core.Path.{refl}
use borrow.Author.Tests.{eq-eqb, ne_eqb}
use Rattle.pruned.specs.Flow.{next_of}
use Rattle.pruned.proofs.next.Goals as goal

pub returns-then-count-eq1 : goal.returns-then-count-eq1
unfolding next_of
returns-then-count-eq1 c = rw (eq-eqb c.args.count 1 c.if-count-eq1.true) refl

pub returns : goal.returns
unfolding next_of
returns c = rw (ne_eqb c.args.count 1 c.if-count-eq1.false) refl
