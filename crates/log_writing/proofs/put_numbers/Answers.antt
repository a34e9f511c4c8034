-- `put_numbers`: the command, then the numbers in order.
use mathlib.Core.Path.{◌≡◌}
use native.Mathlib.Omega.{arith}
use mir.Facts.{to_z-of_z}
use Rattle.log_writing.specs.Parts.{numbers_bytes}
use Rattle.signed.specs.Int.{up, parts}
use Rattle.put.specs.Put.{put_then}
use Rattle.log_writing.proofs.put_numbers.Goals as goal

pub returns : goal.returns
unfolding numbers_bytes
returns c =
    let dy = simp (to_z-of_z c.ranges.dy) at c.to_byte.ensures in
    let dx = simp (to_z-of_z c.ranges.dx) at c.to_byte-2.ensures in
    let d = simp (to_z-of_z c.ranges.distortion) at c.unsigned_abs-sum.ensures.value in
    let m : c.unsigned_abs-sum.result ≡ up c.args.distortion = omega (arith, c.requires.1, parts c.args.distortion) in
    rw (← dy, ← dx, ← m, ← c.block_number.ensures)
    (put_then c.put_byte-a.ensures (put_then c.put_byte-b.ensures (put_then c.put_byte-c.ensures c.put_distortion.ensures)))
