-- `unbiased`: u - 16 fits 32 bits.
use native.Mathlib.Omega.{arith}
use lib.IntN.{pos}
use mir.Syntax.{w32}
use mir.Facts.{to_z-of_z}
use mir.ValLaws.{to_z_pos}
use Rattle.signed.specs.Int.{less}
use Rattle.signed.specs.Values.{unbias}
use Rattle.signed.proofs.unbiased.Goals as goal

pub overflow_sub-result : goal.overflow_sub-result
overflow_sub-result c = rw (to_z_pos w32 c.args.u (omega arith)) (omega (arith, less (pos c.args.u) (pos 16)))

pub returns : goal.returns
unfolding unbias
returns c = rw (to_z-of_z (overflow_sub-result c), to_z_pos w32 c.args.u (omega arith))
