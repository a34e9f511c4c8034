-- `block_distortion`: no number of its type passes the ceiling.
use native.Mathlib.Omega.{arith}
use Rattle.distortion.proofs.block_distortion.Goals as goal

pub block_sum-requires : goal.block_sum-requires
block_sum-requires c = c.requires

pub returns : goal.returns
returns c = c.block_sum.ensures.within (omega (arith, c.block_sum.type_inv))
