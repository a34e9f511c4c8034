-- `block_count`: the definition's quotients; there are few blocks.
use mathlib.Core.Path.{refl}
use native.Mathlib.Omega.{arith}
use Rattle.frame.specs.Grid.{blocks, rows, columns, blocks_few}
use Rattle.frame.proofs.block_count.Goals as goal

pub overflow_mul-result : goal.overflow_mul-result
unfolding blocks rows columns
overflow_mul-result c = omega (arith, blocks_few c.args.s c.requires)

pub returns : goal.returns
unfolding blocks rows columns
returns c = refl
