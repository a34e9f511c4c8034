-- The distortion of a copied block as far as a ceiling goes: what it is by the test half way down, and what it tells of the whole.
use Prim.Native.Nat.{ℕ, ◌≤◌, ◌<◌}
use mathlib.Core.Path.{◌≡◌, refl}
use mathlib.Core.Bool.{Bool, true, false, cond}
use mathlib.Core.List.{List}
use native.Mathlib.Omega.{arith}
use borrow.Author.Tests.{leb-false, le-leb, lt-leb}
use lib.Dec.{leb}
use Rattle.measures.specs.Measures.{measure_of}
use Rattle.distortion.specs.Blocks.{UpTo}
use Rattle.distortion.proofs.Rows.{rows_cut}
use Rattle.window_copy.specs.Copy.{copy_rows, copy_up_to}

module _ (ceiling : ℕ) (window block : List ℕ) (at : ℕ) where
  pub copy_on : copy_rows window block at 8 ≤ ceiling → copy_rows window block at 16 ≡ copy_up_to ceiling window block at
  unfolding copy_up_to
  copy_on h = rw (le-leb (copy_rows window block at 8) ceiling h)

  pub copy_passed : ceiling < copy_rows window block at 8 → copy_rows window block at 8 ≡ copy_up_to ceiling window block at
  unfolding copy_up_to
  copy_passed h = rw (lt-leb (copy_rows window block at 8) ceiling h)

  pub copy-up-to : UpTo ceiling (copy_rows window block at 16) (copy_up_to ceiling window block at)
  unfolding copy_up_to
  copy-up-to = go (leb half ceiling) refl
    where
      half : ℕ
      half = copy_rows window block at 8

      go : (t : Bool) → leb half ceiling ≡ t → UpTo ceiling (copy_rows window block at 16) (cond t (copy_rows window block at 16) half)
      go true e = record { within = λ h. refl; over = λ h. h }
      go false e =
          let h = leb-false half ceiling e in
          let cut = rows_cut (measure_of 1) window block 64 64 0 at 16 8 8 in
          record { within = λ l. absurd (omega arith); over = λ l. omega arith }
