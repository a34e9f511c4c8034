-- `put_block`: the two parts of the vector, then the distortion.
use mir.Facts.{to_z-of_z}
use Rattle.put.specs.Put.{put_then}
use Rattle.log_line.specs.Line.{worded, spaced}
use native.Mathlib.Omega.{arith}
use Rattle.log_line.proofs.put_block.Goals as goal

pub returns : goal.returns
unfolding worded spaced
returns c =
    let dy = simp (to_z-of_z c.ranges.dy) at c.put_signed-a.ensures.0 in
    let dx = simp (to_z-of_z c.ranges.dx) at c.put_signed-b.ensures.0 in
    (put_then dy (put_then dx c.put_field.ensures.0), omega arith)
