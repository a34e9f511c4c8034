-- `block_up_to`: the sum as far as the ceiling goes tells as much as the whole.
use mathlib.Core.Path.{◌∙◌}
use Rattle.distortion.specs.Blocks.{capped_sum}
use Rattle.distortion.proofs.block_up_to.Goals as goal

pub block_sum-requires : goal.block_sum-requires
block_sum-requires c = c.requires

pub returns : goal.returns
returns c = c.cap.ensures ∙ capped_sum c.block_sum.ensures
