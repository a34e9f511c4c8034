-- `entry_ok`: a distortion below 0, then the block's test.
use Prim.Native.Nat.{ℕ}
use mathlib.Core.Path.{◌≡◌, refl}
use mathlib.Core.Bool.{Bool, true, false, ◌&&◌}
use native.Mathlib.Omega.{arith}
use lib.IntN.{ℤ, pos, negsuc, nat_abs}
use lib.Signed.{lt_z}
use mir.Facts.{to_z-of_z}
use Rattle.signed.specs.Int.{ints, parts}
use Rattle.log_head.specs.declared.Head.{Head}
use Rattle.log_head.specs.Heads.{entry_ok, candidate_ok, setting_in}
use Rattle.log_head.proofs.entry_ok.Goals as goal

-- a distortion below 0 is none; any other is its own size
below_none : (h : Head) (k : ℕ) (dy dx z : ℤ) → lt_z z (pos 0) ≡ true → false ≡ entry_ok h k dy dx z
unfolding entry_ok
below_none h k dy dx (pos d) e = absurd (omega (arith, ints, parts (pos d)))
below_none h k dy dx (negsuc d) e = go (candidate_ok (setting_in h) h.w k dy dx)
  where
    go : (t : Bool) → false ≡ (t && false)
    go true = refl
    go false = refl

as-size : (z : ℤ) → lt_z z (pos 0) ≡ false → pos (nat_abs z) ≡ z
as-size (pos d) e = refl
as-size (negsuc d) e = absurd (omega (arith, ints, parts (negsuc d)))

pub returns-then-distortion-lt0 : goal.returns-then-distortion-lt0
returns-then-distortion-lt0 c =
    let a = c.args in
    below_none a.h a.k a.dy a.dx a.distortion (simp (to_z-of_z c.ranges.distortion) at c.if-distortion-lt0.true)

pub returns : goal.returns
returns c =
    let z = c.args.distortion in
    let kept : lt_z z (pos 0) ≡ false = simp (to_z-of_z c.ranges.distortion) at c.if-distortion-lt0.false in
    let size : c.unsigned_abs.result ≡ nat_abs z = simp (to_z-of_z c.ranges.distortion) at c.unsigned_abs.ensures.value in
    rw (size, as-size z kept, to_z-of_z c.ranges.dy, to_z-of_z c.ranges.dx) at c.block_ok.ensures
