-- `step_on`: both tables are the square.
use lib.Dec.{lit≤}
use Rattle.probe.specs.Probe.{widened}
use Rattle.probe.specs.BestSoFar.{pairs}
use Rattle.probe.proofs.Probe.{all?}
use Rattle.probe.proofs.Looks.{pattern?, pattern_yes}
use Rattle.four_step.specs.FourStep.{square, moved, step23}
use Rattle.four_step.proofs.step_on.Goals as goal

pub pattern_new-requires : goal.pattern_new-requires
unfolding pattern? pairs all?
pattern_new-requires c = let q = c.requires in (q, pattern_yes _ tt, lit≤ tt, lit≤ tt)

pub returns : goal.returns
unfolding step23 moved square widened pairs
returns c = c.pattern_new.ensures
