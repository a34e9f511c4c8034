-- `step_one`: the table without its first pair is the pattern without its centre.
use native.Mathlib.Omega.{arith}
use lib.Dec.{lit≤}
use Rattle.search.specs.Matchings.{target_in}
use Rattle.probe.specs.Probe.{widened, is_in, fresh}
use Rattle.probe.specs.BestSoFar.{seen_of, pairs}
use Rattle.probe.proofs.Probe.{all?}
use Rattle.probe.proofs.Looks.{pattern?, pattern_yes, holds_by}
use Rattle.four_step.specs.FourStep.{square}
use Rattle.four_step.proofs.Steps.{step1_is}
use Rattle.four_step.proofs.step_one.Goals as goal

pub pattern-requires : goal.pattern-requires
unfolding pattern? pairs all?
pattern-requires c =
    (record { room = omega arith }, pattern_yes _ tt, lit≤ tt)

pub returns : goal.returns
unfolding square fresh is_in widened pairs
returns c =
    let a = c.args in
    let f = c.at_origin-s in
    holds_by c.pattern.ensures (step1_is (target_in a.matching) (seen_of f.result) f.ensures.is) (omega arith)
