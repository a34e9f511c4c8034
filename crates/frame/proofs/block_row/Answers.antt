-- `block_row`: the grid has a column, and the block ends inside the frame.
use mathlib.Core.Path.{refl}
use native.Mathlib.Omega.{arith}
use Rattle.frame.specs.Grid.{columns, block_row, columns_some, block_down}
use Rattle.frame.proofs.block_row.Goals as goal

pub nonzero_div-result-2 : goal.nonzero_div-result-2
unfolding columns
nonzero_div-result-2 c = omega (arith, columns_some c.args.s c.requires.0)

pub overflow_mul-result : goal.overflow_mul-result
unfolding block_row columns
overflow_mul-result c =
    omega (arith, c.requires.0.high, block_down c.args.s c.requires.0 c.args.k c.requires.1)

pub returns : goal.returns
unfolding block_row columns
returns c = refl
