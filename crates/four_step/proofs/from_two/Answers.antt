-- `from_two`: the two sides of the test are the definition's.
use mathlib.Core.Path.{ap, sym, ◌∙◌}
use native.Mathlib.Omega.{arith}
use Rattle.search.specs.Matchings.{target_in}
use Rattle.probe.proofs.Looks.{holds_by}
use Rattle.four_step.specs.FourStep.{from3}
use Rattle.four_step.proofs.Steps.{from2_stays, from2_moves}
use Rattle.four_step.proofs.from_two.Goals as goal

pub returns-then-stays : goal.returns-then-stays
returns-then-stays c = holds_by c.step_last.ensures (from2_stays _ _ _ (sym c.stays.ensures ∙ c.if-stays.true)) (omega arith)

pub returns : goal.returns
returns c =
    let a = c.args in
    holds_by c.from_three.ensures
    (ap (from3 (target_in a.matching) _) c.step_on-t.ensures.is
    ∙ from2_moves _ _ _ (sym c.stays.ensures ∙ c.if-stays.false)) (omega arith)
