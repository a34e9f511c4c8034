-- `abs_diff_u32`: the difference of two squares' sums fits 32 bits, and its magnitude is that of the integers' difference.
use mathlib.Core.Path.{ap, ◌∙◌}
use native.Mathlib.Omega.{arith}
use lib.IntN.{pos, nat_abs}
use mir.Syntax.{w32}
use mir.Facts.{to_z-of_z}
use mir.ValLaws.{to_z_pos}
use Rattle.signed.specs.Int.{less}
use Rattle.signed.specs.Values.{abs_diff_is}
use Rattle.signed.proofs.abs_diff_u32.Goals as goal

pub overflow_sub-a : goal.overflow_sub-a
overflow_sub-a c =
    rw (to_z_pos w32 c.args.a (omega (arith, c.requires)), to_z_pos w32 c.args.b (omega (arith, c.requires)))
    (omega (arith, c.requires, less (pos c.args.a) (pos c.args.b)))

pub returns : goal.returns
returns c =
    let s = c.before in
    c.unsigned_abs.ensures.value
    ∙ ap nat_abs (to_z-of_z (overflow_sub-a s))
    ∙ rw (to_z_pos w32 s.args.a (omega (arith, s.requires)), to_z_pos w32 s.args.b (omega (arith, s.requires))) (abs_diff_is s.args.a s.args.b)
