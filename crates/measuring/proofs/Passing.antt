-- The first row at whose end a sum passes a ceiling: as a loop finds it, as a relation, and that it is the last where the distortion is within.
use Prim.Native.Nat.{ℕ, zero, suc, ◌+◌, ◌-◌, ◌≤◌, ◌<◌}
use mathlib.Core.Path.{◌≡◌, refl}
use mathlib.Core.Bool.{Bool, true, false, cond}
use native.Mathlib.Nat.{add-zero, add-suc, le_trans}
use native.Mathlib.Numerals.{add-one}
use native.Mathlib.Omega.{arith}
use native.Mathlib.Decide.{ℕ_discrete}
use borrow.Author.Tests.{leb-true, leb-false, le-leb, lt-leb, ltb-true, ltb-false}
use lib.Dec.{leb, ltb}
use Rattle.base.specs.Sum.{sum_to, sum_to_cut}
use Rattle.measures.specs.Measures.{Measure}
use Rattle.distortion.specs.Blocks.{Block, distortion_by, partial_by, capped_within, capped_over}
use Rattle.measuring.specs.declared.Measurement.TheVariants.{Within, Over}
use Rattle.measuring.specs.Measurement.{rows_measured, FirstPassing, with_rows, measurement}

-- a first passing row at which the sum does not pass is the last
not_passed : {ceiling : ℕ} {sum : ℕ → ℕ} {n r : ℕ} → FirstPassing ceiling sum n r → sum r ≤ ceiling → r ≡ n
not_passed {ceiling} {sum} {n} {r} f h = go (ltb r n) refl
  where
    go : (t : Bool) → ltb r n ≡ t → r ≡ n
    go true e = let p = f.passes (ltb-true r n e) in absurd (omega arith)
    go false e = omega (arith, ltb-false r n e, f.among)

module _ (ceiling : ℕ) (sum : ℕ → ℕ) where
  pub rows_none : rows_measured ceiling sum 0 ≡ 0
  unfolding rows_measured
  rows_none = refl

  pub rows_more : (n : ℕ) → rows_measured ceiling sum n ≡ n → sum n ≤ ceiling → rows_measured ceiling sum (n + 1) ≡ n + 1
  unfolding rows_measured
  rows_more n e h = rw (add-one, e, le-leb (sum n) ceiling h)

  pub rows_passed : (n m : ℕ) → rows_measured ceiling sum n ≡ n → ceiling < sum n → rows_measured ceiling sum (n + m) ≡ n
  unfolding rows_measured
  rows_passed n zero e h = rw (add-zero, e)
  rows_passed n (suc m) e h = rw (add-suc, rows_passed n m e h, lt-leb (sum n) ceiling h)

  -- sums that agree
  pub rows_ext : (other : ℕ → ℕ) → ((m : ℕ) → sum m ≡ other m) → (n : ℕ) → rows_measured ceiling sum n ≡ rows_measured ceiling other n
  unfolding rows_measured
  rows_ext other h zero = refl
  rows_ext other h (suc n) = rw (rows_ext other h n, h (rows_measured ceiling other n))

  -- as the request's words have it
  pub rows_first : (n : ℕ) → FirstPassing ceiling sum n (rows_measured ceiling sum n)
  unfolding rows_measured
  rows_first zero = record { among = omega arith; before = λ m h. absurd (omega arith); passes = λ h. absurd (omega arith) }
  rows_first (suc n) = one (rows_measured ceiling sum n) (leb (sum (rows_measured ceiling sum n)) ceiling) refl (rows_first n)
    where
      one : (r : ℕ) (t : Bool) → leb (sum r) ceiling ≡ t → FirstPassing ceiling sum n r → FirstPassing ceiling sum (suc n) (cond t (suc n) r)
      one r true e f = record { among = omega arith; before = early; passes = λ l. absurd (omega arith) }
        where
          last : r ≡ n
          last = not_passed f (leb-true (sum r) ceiling e)

          early : (m : ℕ) → m < suc n → sum m ≤ ceiling
          early m l = go (ℕ_discrete m r)
            where
              go : Dec (m ≡ r) → sum m ≤ ceiling
              go (yes q) = rw q (leb-true (sum r) ceiling e)
              go (no q) = f.before m (omega (arith, q, last))
      one r false e f = record { among = omega (arith, f.among); before = f.before; passes = λ l. leb-false (sum r) ceiling e }

module _ (μ : Measure) (ceiling n : ℕ) (a b : Block) where
  -- no partial distortion is more than the distortion
  partial_most : (m : ℕ) → m ≤ n → partial_by μ n a b m ≤ distortion_by μ n a b
  unfolding partial_by distortion_by
  partial_most m h =
      let e : m + (n - m) ≡ n = omega arith in
      let cut = sum_to_cut (λ i. sum_to (λ j. μ.diff (a i j) (b i j)) n) m (n - m) in
      omega (arith, rw e at cut)

  pub measurement_within : distortion_by μ n a b ≤ ceiling → measurement μ ceiling n a b ≡ Within (distortion_by μ n a b) n
  unfolding measurement with_rows
  measurement_within h =
      let f = rows_first ceiling (partial_by μ n a b) n in
      let all = not_passed f (le_trans (partial_most _ f.among) h) in
      rw (capped_within ceiling (distortion_by μ n a b) h, all)

  pub measurement_over : ceiling < distortion_by μ n a b → measurement μ ceiling n a b ≡ Over (rows_measured ceiling (partial_by μ n a b) n)
  unfolding measurement with_rows
  measurement_over h = rw (capped_over ceiling (distortion_by μ n a b) h)
