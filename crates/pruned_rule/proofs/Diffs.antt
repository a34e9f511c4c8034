-- The absolute difference of two sums is at most the sum of the differences: the triangle inequality, one term at a time. Its square is at most n times
-- the sum of their squares, for n terms: the Cauchy-Schwarz inequality against n ones.
use Prim.Native.Nat.{ℕ, zero, suc, ◌+◌, ◌*◌, ◌≤◌}
use mathlib.Core.Path.{subst}
use native.Mathlib.Nat.{le_refl, le_trans, le_dest, le_of_lt, lt_of_not-le, one-mul, zero-mul, suc-mul, add-mul, mul-add, mul_comm, mul-le-mul}
use native.Mathlib.Decide.{dec_le}
use native.Mathlib.Omega.{arith}
use Rattle.base.specs.Sum.{sum_to}
use Rattle.signed.specs.Values.{abs_diff}
use Rattle.measures.specs.Measures.{absolute, squares}

-- the difference d of two sums of n terms is at most c n times the sum of the differences of the terms
abbrev pub Shrinks : (ℕ → ℕ → ℕ) → (ℕ → ℕ) → Type 0
Shrinks d c = (f g : ℕ → ℕ) (n : ℕ) → d (sum_to f n) (sum_to g n) ≤ c n * sum_to (λ i. d (f i) (g i)) n

abs_diff_sum : (f g : ℕ → ℕ) (n : ℕ) → abs_diff (sum_to f n) (sum_to g n) ≤ sum_to (λ i. abs_diff (f i) (g i)) n
unfolding sum_to
abs_diff_sum f g zero = le_refl 0
abs_diff_sum f g (suc n) = let ih = abs_diff_sum f g n in omega arith

pub absolute_shrinks : Shrinks absolute.diff (λ n. 1)
absolute_shrinks f g n = rw one-mul (abs_diff_sum f g n)

-- 2 a b ≤ a² + b²
two_mul_ordered : (a b : ℕ) → a ≤ b → a * b + a * b ≤ a * a + b * b
two_mul_ordered a b h = subst (λ (x : ℕ). a * x + a * x ≤ a * a + x * x) (le_dest h).1 (step (le_dest h).0)
  where
    step : (t : ℕ) → a * (a + t) + a * (a + t) ≤ a * a + (a + t) * (a + t)
    step t = simp (mul-add, add-mul, mul_comm t a) (omega arith)

two_mul_le : (a b : ℕ) → a * b + a * b ≤ a * a + b * b
two_mul_le a b = go (dec_le a b)
  where
    go : Dec (a ≤ b) → a * b + a * b ≤ a * a + b * b
    go (yes h) = two_mul_ordered a b h
    go (no h) = omega (arith, two_mul_ordered b a (le_of_lt (lt_of_not-le h)), mul_comm a b)

-- 2 (Σ dᵢ) x ≤ Σ dᵢ² + n x²
cross_terms : (d : ℕ → ℕ) (x n : ℕ) → sum_to d n * x + sum_to d n * x ≤ sum_to (λ i. d i * d i) n + n * (x * x)
unfolding sum_to
cross_terms d x zero = simp zero-mul (le_refl 0)
cross_terms d x (suc n) = simp (add-mul, suc-mul) (omega (arith, cross_terms d x n, two_mul_le (d n) x))

-- (Σ dᵢ)² ≤ n Σ dᵢ²
square-sum : (d : ℕ → ℕ) (n : ℕ) → sum_to d n * sum_to d n ≤ n * sum_to (λ i. d i * d i) n
unfolding sum_to
square-sum d zero = le_refl 0
square-sum d (suc n) =
    simp (add-mul, mul-add, suc-mul) (omega (arith, square-sum d n, cross_terms d (d n) n, mul_comm (d n) (sum_to d n)))

pub squares_shrink : Shrinks squares.diff (λ n. n)
squares_shrink f g n = le_trans (mul-le-mul (abs_diff_sum f g n) (abs_diff_sum f g n)) (square-sum (λ i. abs_diff (f i) (g i)) n)
