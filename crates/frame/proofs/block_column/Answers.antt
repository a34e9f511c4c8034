-- `block_column`: the grid has a column, and the block ends inside the frame.
use mathlib.Core.Path.{refl}
use native.Mathlib.Omega.{arith}
use Rattle.frame.specs.Grid.{columns, block_column, columns_some, block_across}
use Rattle.frame.proofs.block_column.Goals as goal

pub nonzero_rem-result : goal.nonzero_rem-result
unfolding columns
nonzero_rem-result c = omega (arith, columns_some c.args.s c.requires.0)

pub overflow_mul-result : goal.overflow_mul-result
unfolding block_column columns
overflow_mul-result c =
    omega (arith, c.requires.0.wide, block_across c.args.s c.requires.0 c.args.k c.requires.1)

pub returns : goal.returns
unfolding block_column columns
returns c = refl
