-- `copy_block`: the block lies inside the frame.
use native.Mathlib.Omega.{arith}
use Rattle.window_copy.proofs.Window.{block_whole}
use Rattle.window_copy.proofs.copy_block.Goals as goal

pub copy_rows-requires : goal.copy_rows-requires
copy_rows-requires g c = (block_whole _ c.requires.0 _ c.requires.2, c.requires.4, c.requires.0.wide, c.requires.3, omega (arith, c.requires.1), c.requires.5)
