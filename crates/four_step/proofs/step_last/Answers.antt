-- `step_last`: the table is the ring.
use lib.Dec.{lit≤}
use Rattle.probe.specs.Probe.{widened}
use Rattle.probe.specs.BestSoFar.{pairs}
use Rattle.probe.proofs.Probe.{all?}
use Rattle.probe.proofs.Looks.{pattern?, pattern_yes}
use Rattle.four_step.specs.FourStep.{step4, ring}
use Rattle.four_step.proofs.step_last.Goals as goal

pub pattern-requires : goal.pattern-requires
unfolding pattern? pairs all?
pattern-requires c = (c.requires, pattern_yes _ tt, lit≤ tt)

pub returns : goal.returns
unfolding step4 ring widened pairs
returns c = c.pattern.ensures
