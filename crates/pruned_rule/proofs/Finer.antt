-- A distance within the limit at a resolution is so at each coarser one, for every N and both measures.
--   square_in_squares  the pel sum of an r m × r m square is that of r × r squares of m × m
--   distance_in_parts  so the distance at r m is the distance at r of the blocks made of the pel sums at m, whose distortion is the distance at m
--   distance_by_finer   the distance at r m is at most c r * c r times the distance at m; c r is 1 for absolute differences, r by squares
--   Nesting            what a measure's limits must obey; nesting: they do by both measures
--   finer              where the distance at m is within the limit for e, so is the distance at each multiple of m that divides N
use Prim.Native.Nat.{ℕ, zero, suc, ◌+◌, ◌*◌, ◌/◌, ◌≤◌, ◌∣◌}
use mathlib.Core.Path.{◌≡◌, refl, sym, ap, ap₂, ◌∙◌, subst}
use native.Mathlib.Nat.{le_refl, le_trans, le_of_eq, mul_comm, mul_assoc, mul-mul-mul_comm, mul-le-mul_left, add-mul, add_assoc, zero-lt-suc}
use native.Mathlib.Nat.{div-zero, div-mul_cancel, div-div-eq-div-mul, dvd-zero, dvd_trans, dvd-mul_left, dvd_of_mul-dvd-mul_right}
use Rattle.base.specs.Sum.{sum_over_ext, sum_over_group}
use Rattle.measures.specs.Measures.{Measure, absolute, squares, measure_of, measure_elim}
use Rattle.distortion.specs.Blocks.{Block, distortion_by}
use Rattle.pruned_rule.specs.Distance.{square_sum, distance_by}
use Rattle.pruned_rule.proofs.Diffs.{Shrinks}
use Rattle.pruned_rule.proofs.Blocks.{distance_by_le, Lawful, absolute_lawful, squares_lawful}

-- row x of square row i in square row p, counted by rows of the block
place : (p r m i x : ℕ) → p * (r * m) + (i * m + x) ≡ (p * r + i) * m + x
place p r m i x = rw (add-mul, mul_assoc, add_assoc)

pub square_in_squares : (a : Block) (r m p q : ℕ) → square_sum a (r * m) p q ≡ square_sum (square_sum a m) r p q
unfolding square_sum
square_in_squares a r m p q =
    sum_over_group r m _
    ∙ sum_over_ext r r _ _ (λ i j hi hj. sum_over_ext m m _ _ (λ x y hx hy. ap₂ a (place p r m i x) (place q r m j y)))

parts_divide : (n r m : ℕ) → r * m ∣ n → r ∣ n / m
parts_divide n r zero h = rw div-zero (dvd-zero r)
parts_divide n r (suc m) h =
    dvd_of_mul-dvd-mul_right r (zero-lt-suc m) (rw (div-mul_cancel (suc m) (dvd_trans (suc m) (dvd-mul_left (suc m) r) h)) h)

module _ (μ : Measure) (n : ℕ) (a b : Block) where
  pub distance_in_parts : (r m : ℕ) → distance_by μ n (r * m) a b ≡ distance_by μ (n / m) r (square_sum a m) (square_sum b m)
  unfolding distance_by
  distance_in_parts r m =
      rw (div-div-eq-div-mul, mul_comm m r)
      (sum_over_ext _ _ _ _ (λ p q hp hq. ap₂ μ.diff (square_in_squares a r m p q) (square_in_squares b r m p q)))

  distance_of_parts : (m : ℕ) → distance_by μ n m a b ≡ distortion_by μ (n / m) (square_sum a m) (square_sum b m)
  unfolding distance_by distortion_by
  distance_of_parts m = refl

  pub distance_by_finer : (c : ℕ → ℕ) → Shrinks μ.diff c → (r m : ℕ) → r * m ∣ n
      → distance_by μ n (r * m) a b ≤ c r * c r * distance_by μ n m a b
  distance_by_finer c s r m h =
      rw (distance_in_parts r m, distance_of_parts m) (distance_by_le μ c s (n / m) r (parts_divide n r m h) (square_sum a m) (square_sum b m))

-- a lawful measure whose limits go together
pub record Nesting (μ : Measure) : Type 0 where
  pub lawful : Lawful μ
  -- the limit at r for the limit at m is within the limit at r m
  pub composes : (r m e : ℕ) → μ.limit r (μ.limit m e) ≤ μ.limit (r * m) e
  -- a greater E has no lower limit
  pub rises : (m : ℕ) {e f : ℕ} → e ≤ f → μ.limit m e ≤ μ.limit m f

absolute_nesting : Nesting absolute
absolute_nesting = record { lawful = absolute_lawful; composes = λ r m e. le_refl e; rises = λ m h. h }

squares_nesting : Nesting squares
squares_nesting =
    record {
      lawful = squares_lawful;
      composes = λ r m e. le_of_eq (sym (mul_assoc (r * r) (m * m) e) ∙ ap (λ (x : ℕ). x * e) (mul-mul-mul_comm r r m m));
      rises = λ m h. mul-le-mul_left (m * m) h;
    }

pub nesting : (measure : ℕ) → Nesting (measure_of measure)
nesting = measure_elim Nesting absolute_nesting squares_nesting

module _ (μ : Measure) (nests : Nesting μ) (n : ℕ) (a b : Block) where
  finer_by : (r m e : ℕ) → r * m ∣ n → distance_by μ n m a b ≤ μ.limit m e → distance_by μ n (r * m) a b ≤ μ.limit (r * m) e
  finer_by r m e h l =
      le_trans
      (rw (distance_in_parts μ n a b r m) (nests.lawful (n / m) r (parts_divide n r m h) _ _ _ (rw (distance_of_parts μ n a b m) at l)))
      (nests.composes r m e)

  pub finer : (m k e : ℕ) → m ∣ k → k ∣ n → distance_by μ n m a b ≤ μ.limit m e → distance_by μ n k a b ≤ μ.limit k e
  finer m k e d h l =
      subst (λ (x : ℕ). distance_by μ n x a b ≤ μ.limit x e) (div-mul_cancel m d)
      (finer_by (k / m) m e (rw (div-mul_cancel m d) h) l)
