-- `inside`: a place with 1 added is 0 only where it lies before the side.
use mathlib.Core.Path.{refl}
use native.Mathlib.Omega.{arith}
use Rattle.signed.specs.Values.{unbias}
use Rattle.half_search.proofs.Leading.{place_at}
use Rattle.half_search.proofs.inside.Goals as goal

pub returns-then-place-eq0 : goal.returns-then-place-eq0
unfolding unbias
returns-then-place-eq0 c = rw c.if-place-eq0.true refl

pub returns : goal.returns
returns c = rw (place_at c.args.place (omega arith)) refl
