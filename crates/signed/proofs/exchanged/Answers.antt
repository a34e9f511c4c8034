-- `exchanged`: sum + more and that - less fit 32 bits.
use native.Mathlib.Omega.{arith}
use lib.IntN.{◌+ℤ◌}
use mir.Facts.{to_z-of_z}
use Rattle.signed.specs.Int.{added, less}
use Rattle.signed.proofs.exchanged.Goals as goal

pub overflow_add-result : goal.overflow_add-result
overflow_add-result c = rw (to_z-of_z c.ranges.sum, to_z-of_z c.ranges.more) (omega (arith, added c.args.sum c.args.more))

pub overflow_sub-result : goal.overflow_sub-result
overflow_sub-result c =
    let a = c.args in
    rw (to_z-of_z (overflow_add-result c), to_z-of_z c.ranges.sum, to_z-of_z c.ranges.more, to_z-of_z c.ranges.less)
    (omega (arith, added a.sum a.more, less (a.sum +ℤ a.more) a.less))

pub returns : goal.returns
returns c = rw (to_z-of_z (overflow_sub-result c), to_z-of_z (overflow_add-result c), to_z-of_z c.ranges.sum, to_z-of_z c.ranges.more, to_z-of_z c.ranges.less)
