-- A block's distance at m is at most its distortion, or m² times that by squares: two sums differ by no more than their terms do in each m × m square,
-- and the squares make up the block.
use Prim.Native.Nat.{ℕ, zero, suc, ◌+◌, ◌*◌, ◌/◌, ◌≤◌, ◌∣◌, zero-le}
use mathlib.Core.Path.{◌≡◌, sym, ap, ◌∙◌}
use native.Mathlib.Nat.{le_trans, le_of_eq, mul-le-mul_left, one-mul, mul_assoc, div-zero, div-mul_cancel, mul-div_cancel, zero-lt-suc}
use Rattle.base.specs.Sum.{sum_to, sum_to_mono, sum_to_scale, sum_over, sum_over_mono, sum_over_scale, sum_over_group}
use Rattle.measures.specs.Measures.{Measure, absolute, squares, measure_of, measure_elim}
use Rattle.distortion.specs.Blocks.{Block, distortion_by}
use Rattle.pruned_rule.specs.Distance.{square_sum, distance_by}
use Rattle.pruned_rule.proofs.Diffs.{Shrinks, absolute_shrinks, squares_shrink}

-- one argument for every measure whose difference shrinks
module _ (μ : Measure) (c : ℕ → ℕ) (s : Shrinks μ.diff c) where
  -- in two dimensions
  shrinks_over : (n m : ℕ) (f g : ℕ → ℕ → ℕ)
      → μ.diff (sum_over n m f) (sum_over n m g) ≤ c n * c m * sum_over n m (λ i j. μ.diff (f i j) (g i j))
  shrinks_over n m f g =
      le_trans (s (λ i. sum_to (f i) m) (λ i. sum_to (g i) m) n)
      (le_trans (mul-le-mul_left (c n) (sum_to_mono _ _ n (λ i hi. s (f i) (g i) m)))
      (le_of_eq (ap (λ x. c n * x) (sum_to_scale (c m) _ n) ∙ sym (mul_assoc (c n) (c m) _))))

  by-squares : (k m : ℕ) (a b : Block)
      → sum_over k k (λ p q. μ.diff (square_sum a m p q) (square_sum b m p q)) ≤ c m * c m * sum_over (k * m) (k * m) (λ i j. μ.diff (a i j) (b i j))
  unfolding square_sum
  by-squares k m a b =
      le_trans (sum_over_mono k k _ _ (λ p q hp hq. shrinks_over m m (λ i j. a (p * m + i) (q * m + j)) (λ i j. b (p * m + i) (q * m + j))))
      (le_of_eq (sum_over_scale (c m * c m) k k _ ∙ ap (λ x. c m * c m * x) (sym (sum_over_group k m (λ i j. μ.diff (a i j) (b i j))))))

  by_division : (N m k : ℕ) → N ≡ k * m → (a b : Block) → distance_by μ N m a b ≤ c m * c m * distortion_by μ N a b
  unfolding distance_by distortion_by sum_to
  by_division N zero k e a b = rw div-zero zero-le
  by_division N (suc m) k e a b = rw (e, mul-div_cancel k (zero-lt-suc m)) (by-squares k (suc m) a b)

  pub distance_by_le : (N m : ℕ) → m ∣ N → (a b : Block) → distance_by μ N m a b ≤ c m * c m * distortion_by μ N a b
  distance_by_le N m h = by_division N m (N / m) (sym (div-mul_cancel m h))

-- a measure by which search 2 is right: a distortion up to e has its distances within the limit for e
abbrev pub Lawful : Measure → Type 0
Lawful μ = (N m : ℕ) → m ∣ N → (a b : Block) (e : ℕ) → distortion_by μ N a b ≤ e → distance_by μ N m a b ≤ μ.limit m e

pub absolute_lawful : Lawful absolute
absolute_lawful N m h a b e l = le_trans (distance_by_le absolute (λ n. 1) absolute_shrinks N m h a b) (rw one-mul l)

pub squares_lawful : Lawful squares
squares_lawful N m h a b e l = le_trans (distance_by_le squares (λ n. n) squares_shrink N m h a b) (mul-le-mul_left (m * m) l)

pub measure_lawful : (measure : ℕ) → Lawful (measure_of measure)
measure_lawful = measure_elim Lawful absolute_lawful squares_lawful
