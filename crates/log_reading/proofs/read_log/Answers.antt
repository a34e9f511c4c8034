-- `read_log`: a refusal leaves the list as it was lent; past it the list has room for every block.
use mathlib.Core.Path.{refl, ap, sym, ◌∙◌}
use borrow.Author.Tests.{eq-eqb, ne_eqb}
use Rattle.log_reading.specs.Reading.{read_log}
use Rattle.log_reading.proofs.Turns.{roomy}
use Rattle.log_reading.proofs.read_log.Goals as goal

pub returns-then-answer-ne0 : goal.returns-then-answer-ne0
unfolding read_log
returns-then-answer-ne0 c = rw (← c.log_read-answer.ensures, ne_eqb _ 0 c.if-answer-ne0.true) refl

pub fill-requires : goal.fill-requires
fill-requires c = roomy _ _ (ap (λ x. x.refusal) (sym c.log_read-answer.ensures) ∙ c.if-answer-ne0.false)

pub returns : goal.returns
unfolding read_log
returns c =
    rw (← c.log_read-answer.ensures, eq-eqb _ 0 c.if-answer-ne0.false, c.fill.ensures) refl
