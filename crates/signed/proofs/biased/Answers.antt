-- `biased`: d + 16 is not below 0, so the cast keeps it.
use native.Mathlib.Omega.{arith}
use lib.IntN.{pos}
use mir.Facts.{to_z-of_z}
use Rattle.signed.specs.Int.{ints, added}
use Rattle.signed.specs.Values.{bias}
use Rattle.signed.proofs.biased.Goals as goal

pub overflow_add-result : goal.overflow_add-result
overflow_add-result c = rw (to_z-of_z c.ranges.d) (omega (arith, added c.args.d (pos 16)))

pub overflow_cast-result : goal.overflow_cast-result
overflow_cast-result c = rw (to_z-of_z (overflow_add-result c), to_z-of_z c.ranges.d) (omega (arith, ints, added c.args.d (pos 16)))

pub returns : goal.returns
unfolding bias
returns c = rw (to_z-of_z (overflow_add-result c), to_z-of_z c.ranges.d) (omega (arith, added c.args.d (pos 16)))
