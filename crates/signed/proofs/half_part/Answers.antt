-- `half_part`: d + d + (u - 1) fits 32 bits.
use native.Mathlib.Omega.{arith}
use lib.IntN.{pos, ◌-ℤ◌, ◌+ℤ◌}
use mir.Syntax.{w32}
use mir.Facts.{to_z-of_z}
use mir.ValLaws.{to_z_pos}
use Rattle.signed.specs.Int.{added, less}
use Rattle.signed.specs.Values.{unbias}
use Rattle.signed.proofs.half_part.Goals as goal

pub overflow_add-result : goal.overflow_add-result
overflow_add-result c = rw (to_z-of_z c.ranges.d) (omega (arith, added c.args.d c.args.d))

pub overflow_sub-result : goal.overflow_sub-result
overflow_sub-result c = rw (to_z_pos w32 c.args.u (omega arith)) (omega (arith, less (pos c.args.u) (pos 1)))

pub overflow_add-result-2 : goal.overflow_add-result-2
overflow_add-result-2 c =
    let d = c.args.d in
    let one = pos c.args.u -ℤ pos 1 in
    rw (to_z-of_z (overflow_add-result c), to_z-of_z (overflow_sub-result c), to_z-of_z c.ranges.d, to_z_pos w32 c.args.u (omega arith))
    (omega (arith, added d d, less (pos c.args.u) (pos 1), added (d +ℤ d) one))

pub returns : goal.returns
unfolding unbias
returns c =
    rw (to_z-of_z (overflow_add-result-2 c), to_z-of_z (overflow_add-result c), to_z-of_z (overflow_sub-result c), to_z-of_z c.ranges.d, to_z_pos w32 c.args.u (omega arith))
