-- `put_signed`: a sign before the digits of a number below 0.
use lib.IntN.{pos, nat_abs}
use mathlib.Core.Bool.{true}
use lib.Signed.{lt_z}
use mir.Facts.{to_z-of_z}
use Rattle.signed.specs.Int.{dn, ints, parts}
use Rattle.put.specs.Put.{put_then}
use Rattle.log_line.proofs.Texts.{number_below}
use Prim.Native.Nat.{◌<◌}
use mathlib.Core.Path.{◌≡◌, sym}
use native.Mathlib.Omega.{arith}
use Rattle.log_line.proofs.put_signed.Goals as goal

pub returns-then-z-lt0 : goal.returns-then-z-lt0
returns-then-z-lt0 c =
    let z = c.args.z in
    let below : lt_z z (pos 0) ≡ true = simp (to_z-of_z c.ranges.z) at c.if-z-lt0.true in
    let h : 0 < dn z = omega (arith, ints, parts z) in
    let e : c.unsigned_abs-n.result ≡ nat_abs z = simp (to_z-of_z c.ranges.z) at c.unsigned_abs-n.ensures.value in
    let sign = c.put_byte-k.ensures in
    (rw (number_below z c.args.after h) (put_then sign (rw (sym e) c.put_field.ensures.0)), omega (arith, sign.place))
