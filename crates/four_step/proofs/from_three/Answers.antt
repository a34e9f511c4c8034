-- `from_three`: the two sides of the test are the definition's.
use mathlib.Core.Path.{ap, sym, ◌∙◌}
use native.Mathlib.Omega.{arith}
use Rattle.search.specs.Matchings.{target_in}
use Rattle.probe.proofs.Looks.{holds_by}
use Rattle.four_step.specs.FourStep.{step4}
use Rattle.four_step.proofs.Steps.{from3_stays, from3_moves}
use Rattle.four_step.proofs.from_three.Goals as goal

pub returns-then-stays : goal.returns-then-stays
returns-then-stays c = holds_by c.step_last.ensures (from3_stays _ _ _ (sym c.stays.ensures ∙ c.if-stays.true)) (omega arith)

pub returns : goal.returns
returns c =
    let a = c.args in
    holds_by c.step_last-2.ensures
    (ap (step4 (target_in a.matching)) c.step_on-t.ensures.is
    ∙ from3_moves _ _ _ (sym c.stays.ensures ∙ c.if-stays.false)) (omega arith)
