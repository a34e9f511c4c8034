-- The boxes of a block and its search window are what the loops need, and what they compute are its candidates' distances.
--   wide       the squares of all candidates lie in the array, and their sums of squares have 32 bits
--   numbered   distances in the array are those of the rules
use Prim.Native.Nat.{ℕ, ◌+◌, ◌-◌, ◌*◌, ◌/◌, ◌≤◌, ◌<◌}
use mathlib.Core.Path.{◌≡◌, sym, ap, ap₂, ◌∙◌, subst}
use mathlib.Core.List.{List}
use native.Mathlib.Nat.{mul_comm, mul_assoc, add-mul, mul-le-mul, mul-le-mul_left}
use native.Mathlib.Omega.{arith}
use lib.ListN.{length, get_or}
use Rattle.base.specs.Lists.{fill_to}
use Rattle.base.specs.Sum.{sum_over_ext, sum_over_bound}
use Rattle.measures.specs.Measures.{measure_of, diff_most}
use Rattle.frame.specs.declared.SearchBlock.{SearchBlock}
use Rattle.search.specs.Exhaustive.{grid_vector}
use Rattle.reach.specs.Reach.{reach, InReach}
use Rattle.pruned_rule.specs.Distance.{distance_by}
use Rattle.boxes.specs.Boxes.{Cut, area, level_at, own_at, span_of, window_places, own_places, level_of, Filled, Boxed}
use Rattle.boxes.specs.Distances.{distance_to, Numbered}
use Rattle.boxes.proofs.Rooms.{cut_some, square_small, square_inside}
use Rattle.boxes.proofs.Runs.{turned_about, place_in, older_index, newer_index}
use Rattle.boxes.proofs.Squares.{window_in_array, own_in_array}
use Rattle.boxes.proofs.Filled.{filled_at}
use Rattle.pruned_wide.specs.Wide.{squared, squares_at, Wide}

-- ---- squares of a block

module _ (n m span : ℕ) (boxes : List ℕ) (few : n ≤ 32) (cut : Cut n m) (all : n / m * m ≡ n) (product : n * m ≤ 256) (some : 0 < span)
    (short : span ≤ (n + 32) * 32 + 33) (room : 5 * area n ≤ length boxes) (f : Filled n span boxes) where
  abbrev k : ℕ
  k = n / m

  -- p rows of squares down, x places to a row
  down_in : (x p : ℕ) → p < k → p * m * x ≤ x * (n - m)
  down_in x p h =
      let a = square_inside n m p h in
      omega (arith, mul_comm x (p * m), mul-le-mul_left x (let e : p * m ≤ n - m = omega arith in e))

  older-at : (p q t : ℕ) → level_at n m + p * ((n + 32) * m) + t + m * q ≡ level_at n m + (t + p * m * (n + 32) + q * m)
  older-at p q t = omega (arith, turned_about p (n + 32) m, mul_comm (n + 32) (p * m), mul_comm m q)

  older_in : (p q t : ℕ) → p < k → q < k → t < span → t + p * m * (n + 32) + q * m < window_places n span m
  older_in p q t hp hq ht =
      let c = square_inside n m q hq in
      omega (arith, down_in (n + 32) p hp, add-mul (n + 32) 1 (n - m))

  newer_at : (p q : ℕ) → own_at n m + p * (n * m) + m * q ≡ own_at n m + (p * m * n + q * m)
  newer_at p q = omega (arith, turned_about p n m, mul_comm n (p * m), mul_comm m q)

  newer_in : (p q : ℕ) → p < k → q < k → p * m * n + q * m < own_places n m
  newer_in p q hp hq =
      let c = square_inside n m q hq in
      omega (arith, down_in n p hp, add-mul n 1 (n - m))

  -- a box at most, and that of a whole row
  abbrev most : ℕ
  most = 255 * m * m

  most_some : 0 < most
  most_some =
      let a = cut_some n m cut in
      let h : 1 ≤ 255 * m = omega arith in
      omega (arith, mul-le-mul h a)

  row_most : k * most ≤ 65280
  row_most =
      let e : k * most ≡ 255 * m * n = turned_about k (255 * m) m ∙ ap (λ (x : ℕ). 255 * m * x) all in
      omega (arith, e, mul_assoc 255 m n, mul_comm m n, product)

  all_most : k * (k * (most * most)) ≤ 4261478400
  all_most =
      let e : k * (k * (most * most)) ≡ k * most * (k * most) = ap (λ (x : ℕ). k * x) (sym (mul_assoc k most most)) ∙ turned_about k (k * most) most in
      omega (arith, e, square_small (k * most) 65280 row_most)

  pub wide : Wide boxes (level_of n m) span
  wide = record {
    rows = λ p hp. record {
      some = some;
      older = λ t q ht hq. omega (arith, older-at p q t, window_in_array n span m _ short cut (older_in p q t hp hq ht));
      newer = λ q hq. omega (arith, newer_at p q, own_in_array n m _ cut (newer_in p q hp hq));
    };
    wide = λ t h.
        let b = sum_over_bound (most * most) k k
        (λ p q. squared (get_or boxes (own_at n m + p * (n * m) + m * q) 0) (get_or boxes (level_at n m + p * ((n + 32) * m) + t + m * q) 0))
        (λ p q hp hq.
        diff_most 2 _ _ most most_some
        (rw (newer_at p q) (f.own_small m _ cut (newer_in p q hp hq)))
        (rw (older-at p q t) (f.window_small m _ cut (older_in p q t hp hq h)))) in
        omega (arith, b, all_most);
    small = (omega (arith, add-mul n 32 m, product, cut.inside), omega (arith, product));
  }

-- ---- the distances

module _ (older newer : List ℕ) (b : SearchBlock) (boxes : List ℕ) (x : Boxed older newer b boxes) (m : ℕ) (i j : ℕ) (h : InReach (reach b) i j) where
  abbrev n : ℕ
  n = b.setting.n

  abbrev y : ℕ
  y = i - (reach b).top

  abbrev z : ℕ
  z = j - (reach b).left

  distance_is : Cut n m → squares_at boxes n m ((n + 32) * y + z) ≡ distance_to older newer b 2 m (grid_vector i j)
  unfolding distance_by
  distance_is cut =
      sum_over_ext (n / m) (n / m) _ _ (λ p q hp hq.
      ap₂ (measure_of 2).diff
      (ap (λ (u : ℕ). get_or boxes u 0) (newer_index n m y z p q) ∙ x.newer_square m p q cut hp hq)
      (ap (λ (u : ℕ). get_or boxes u 0) (older_index n m y z p q) ∙ x.older_square i j m p q h cut hp hq))

  distance-at : (d numbers : List ℕ) (span : ℕ) → span ≤ length d → (N : ℕ) → N ≡ n → Cut N m → numbers ≡ fill_to d 0 (squares_at boxes N m) span
      → span ≡ span_of N (reach b) → get_or numbers ((N + 32) * y + z) 0 ≡ distance_to older newer b 2 m (grid_vector i j)
  distance-at d numbers span long N e =
      subst
      (λ (k : ℕ). Cut k m → numbers ≡ fill_to d 0 (squares_at boxes k m) span → span ≡ span_of k (reach b)
      → get_or numbers ((k + 32) * y + z) 0 ≡ distance_to older newer b 2 m (grid_vector i j))
      (sym e)
      (λ cut g s.
      ap (λ (xs : List ℕ). get_or xs ((n + 32) * y + z) 0) g
      ∙ filled_at d (squares_at boxes n m) span long ((n + 32) * y + z) (omega (arith, place_in b i j h, s))
      ∙ distance_is cut)

pub numbered : (boxes d numbers : List ℕ) (n m span : ℕ) → Cut n m → span ≤ length d → numbers ≡ fill_to d 0 (squares_at boxes n m) span
    → Numbered 2 boxes n m span numbers
numbered boxes d numbers n m span cut long g older newer b x e s i j h = distance-at older newer b boxes x m i j h d numbers span long n e cut g s
