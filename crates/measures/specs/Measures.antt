-- 02, request 1: "All searches and the measuring of one vector take a measure, 1 absolute or 2 squares." How two pels differ, and two sums of pels. All else
-- that is said of a measure is said of every measure at once.
--   Measure     diff    how two numbers differ
--               most    how far two pels differ at most: a distortion is at most that × N²
--               limit   how far a distance at m may go for a bound E (search 2)
--   absolute    01: "the sum of absolute pel differences"
--   squares     "the sum of squared differences": Gharavi-Alkhansari's paper with exponent 2, where a vector is dropped "when it exceeds m² × E"
--   measure_of   the measure of a number that 51 lets pass, measure_ok: 1 or 2
use Rattle.std.specs.Prelude.{ℕ, ◌*◌, ◌≤◌, ◌<◌, ◌≡◌, Bool, true, false, cond, ◌&&◌, leb, eqb}
use Rattle.std.proofs.Common.{mul-le-mul, arith, eq-eqb, ne_eqb}
use Rattle.signed.specs.Values.{abs_diff}

pub record Measure : Type 0 where
  pub diff : ℕ → ℕ → ℕ
  pub most : ℕ
  pub limit : ℕ → ℕ → ℕ

abbrev pub absolute : Measure
absolute = record { diff = abs_diff; most = 255; limit = λ m e. e }

abbrev pub squares : Measure
squares = record { diff = λ a b. abs_diff a b * abs_diff a b; most = 65025; limit = λ m e. m * m * e }

-- 51 measure not 1 or 2
abbrev pub measure_ok : ℕ → Bool
measure_ok measure = leb 1 measure && leb measure 2

unfoldable pub measure_of : ℕ → Measure
measure_of measure = cond (eqb measure 1) absolute squares

-- ---- what is said of both

-- what holds of both measures holds of the measure of each number
pub measure_elim : (P : Measure → Type 0) → P absolute → P squares → (measure : ℕ) → P (measure_of measure)
unfolding measure_of
measure_elim P one two measure = go (eqb measure 1)
  where
    go : (t : Bool) → P (cond t absolute squares)
    go true = one
    go false = two

module _ (measure : ℕ) where
  pub measure_absolute : measure ≡ 1 → measure_of measure ≡ absolute
  unfolding measure_of
  measure_absolute e = rw (eq-eqb measure 1 e)

  pub measure_squares : (measure ≡ 1 → ⊥) → measure_of measure ≡ squares
  unfolding measure_of
  measure_squares h = rw (ne_eqb measure 1 h)

  -- so there is one code for all numbers but 1
  pub measure_other : (measure ≡ 1 → ⊥) → measure_of 2 ≡ measure_of measure
  unfolding measure_of
  measure_other h = rw (ne_eqb measure 1 h)

  pub most_small : (measure_of measure).most ≤ 65025
  most_small = measure_elim (λ μ. μ.most ≤ 65025) (omega arith) (omega arith) measure

  -- `most` is what it says
  pub pel_most : (a b : ℕ) → a ≤ 255 → b ≤ 255 → (measure_of measure).diff a b ≤ (measure_of measure).most
  pel_most a b ha hb =
      let h : abs_diff a b ≤ 255 = omega arith in
      measure_elim (λ μ. μ.diff a b ≤ μ.most) h (mul-le-mul h h) measure

  -- numbers up to c differ by at most c²
  pub diff_most : (a b c : ℕ) → 0 < c → a ≤ c → b ≤ c → (measure_of measure).diff a b ≤ c * c
  diff_most a b c some ha hb =
      let h : abs_diff a b ≤ c = omega arith in
      measure_elim (λ μ. μ.diff a b ≤ c * c) (omega (arith, mul-le-mul h some)) (mul-le-mul h h) measure
