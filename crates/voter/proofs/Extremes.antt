-- The largest and the smallest of the first n numbers.
--   largest_above, smallest_below   none of the numbers is beyond them
--   largest_least, smallest_most    no bound of the numbers is within them
--   smallest_small                  the smallest is at most 255
--   largest_some, smallest_some     where they are beyond a bound, so is one of the numbers
--   largest_ext, smallest_ext       of numbers that agree
--   largest_turned, smallest_turned of rows of numbers and of columns they are the same
use Prim.Native.Nat.{ℕ, zero, suc, ◌≤◌, ◌<◌}
use mathlib.Core.Path.{◌≡◌, refl}
use mathlib.Core.Logic.{⊎_elim}
use native.Mathlib.Nat.{eq-or-lt_of_le, le_of_suc-le-suc, le_trans, lt_of_not-le}
use native.Mathlib.Decide.{dec_le}
use native.Mathlib.Omega.{arith}
use Rattle.voter.specs.Voter.{largest_to, smallest_to}

pub largest_above : (f : ℕ → ℕ) (n i : ℕ) → i < n → f i ≤ largest_to f n
unfolding largest_to
largest_above f zero i h = absurd (omega arith)
largest_above f (suc n) i h =
    ⊎_elim (λ e. rw e (omega arith)) (λ l. omega (arith, largest_above f n i l)) (eq-or-lt_of_le (le_of_suc-le-suc h))

pub smallest_below : (f : ℕ → ℕ) (n i : ℕ) → i < n → smallest_to f n ≤ f i
unfolding smallest_to
smallest_below f zero i h = absurd (omega arith)
smallest_below f (suc n) i h =
    ⊎_elim (λ e. rw e (omega arith)) (λ l. omega (arith, smallest_below f n i l)) (eq-or-lt_of_le (le_of_suc-le-suc h))

pub largest_least : (f : ℕ → ℕ) (n k : ℕ) → ((i : ℕ) → i < n → f i ≤ k) → largest_to f n ≤ k
unfolding largest_to
largest_least f zero k h = omega arith
largest_least f (suc n) k h = omega (arith, largest_least f n k (λ i l. h i (omega arith)), h n (omega arith))

smallest_most : (f : ℕ → ℕ) (n k : ℕ) → k ≤ 255 → ((i : ℕ) → i < n → k ≤ f i) → k ≤ smallest_to f n
unfolding smallest_to
smallest_most f zero k s h = s
smallest_most f (suc n) k s h = omega (arith, smallest_most f n k s (λ i l. h i (omega arith)), h n (omega arith))

smallest_small : (f : ℕ → ℕ) (n : ℕ) → smallest_to f n ≤ 255
unfolding smallest_to
smallest_small f zero = omega arith
smallest_small f (suc n) = omega (arith, smallest_small f n)

pub largest_some : (f : ℕ → ℕ) (n k : ℕ) → k < largest_to f n → (i : ℕ) × (i < n) × (k < f i)
unfolding largest_to
largest_some f zero k h = absurd (omega arith)
largest_some f (suc n) k h = go (dec_le (f n) k) (largest_some f n k)
  where
    go : Dec (f n ≤ k) → (k < largest_to f n → (i : ℕ) × (i < n) × (k < f i)) → (i : ℕ) × (i < suc n) × (k < f i)
    go (yes l) before = let s = before (omega arith) in (s.0, omega arith, s.2)
    go (no l) before = (n, omega arith, lt_of_not-le l)

pub smallest_some : (f : ℕ → ℕ) (n k : ℕ) → k ≤ 255 → smallest_to f n < k → (i : ℕ) × (i < n) × (f i < k)
unfolding smallest_to
smallest_some f zero k s h = absurd (omega arith)
smallest_some f (suc n) k s h = go (dec_le k (f n)) (smallest_some f n k s)
  where
    go : Dec (k ≤ f n) → (smallest_to f n < k → (i : ℕ) × (i < n) × (f i < k)) → (i : ℕ) × (i < suc n) × (f i < k)
    go (yes l) before = let s = before (omega arith) in (s.0, omega arith, s.2)
    go (no l) before = (n, omega arith, lt_of_not-le l)

pub largest_ext : (f g : ℕ → ℕ) (n : ℕ) → ((i : ℕ) → f i ≡ g i) → largest_to f n ≡ largest_to g n
unfolding largest_to
largest_ext f g zero h = refl
largest_ext f g (suc n) h = rw (largest_ext f g n h, h n)

pub smallest_ext : (f g : ℕ → ℕ) (n : ℕ) → ((i : ℕ) → f i ≡ g i) → smallest_to f n ≡ smallest_to g n
unfolding smallest_to
smallest_ext f g zero h = refl
smallest_ext f g (suc n) h = rw (smallest_ext f g n h, h n)

pub largest_turned : (b : ℕ → ℕ → ℕ) (m n : ℕ) → largest_to (λ j. largest_to (λ i. b i j) m) n ≡ largest_to (λ i. largest_to (b i) n) m
largest_turned b m n = omega (arith, within b m n, within (λ j i. b i j) n m)
  where
    within : (b : ℕ → ℕ → ℕ) (m n : ℕ) → largest_to (λ j. largest_to (λ i. b i j) m) n ≤ largest_to (λ i. largest_to (b i) n) m
    within b m n =
        largest_least _ n _ (λ j hj. largest_least _ m _ (λ i hi. le_trans (largest_above (b i) n j hj) (largest_above (λ i. largest_to (b i) n) m i hi)))

pub smallest_turned : (b : ℕ → ℕ → ℕ) (m n : ℕ) → smallest_to (λ j. smallest_to (λ i. b i j) m) n ≡ smallest_to (λ i. smallest_to (b i) n) m
smallest_turned b m n = omega (arith, within b m n, within (λ j i. b i j) n m)
  where
    within : (b : ℕ → ℕ → ℕ) (m n : ℕ) → smallest_to (λ i. smallest_to (b i) n) m ≤ smallest_to (λ j. smallest_to (λ i. b i j) m) n
    within b m n =
        smallest_most _ n _ (smallest_small _ m)
        (λ j hj. smallest_most _ m _ (smallest_small _ m) (λ i hi. le_trans (smallest_below (λ i. smallest_to (b i) n) m i hi) (smallest_below (b i) n j hj)))
