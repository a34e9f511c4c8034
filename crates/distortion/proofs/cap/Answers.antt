-- `cap`: the two outcomes of the test.
use mathlib.Core.Path.{sym}
use Rattle.distortion.specs.Blocks.{capped_within, capped_over}
use Rattle.distortion.proofs.cap.Goals as goal

pub returns-then-sum-ceiling : goal.returns-then-sum-ceiling
returns-then-sum-ceiling c = sym (capped_over _ _ c.if-sum-ceiling.true)

pub returns : goal.returns
returns c = sym (capped_within _ _ c.if-sum-ceiling.false)
