-- A row of squares by its runs.
--   added        an array with the first q squares added up, run_more: and a run more
--   run_bound    what a run adds fits; first_inside: the first run lies inside the array, first_bound: and what it adds fits
use Prim.Native.Nat.{ℕ, ◌+◌, ◌*◌, ◌≤◌, ◌<◌}
use mathlib.Core.Path.{◌≡◌, ap, ap₂, ◌∙◌}
use mathlib.Core.List.{List}
use native.Mathlib.Omega.{arith}
use lib.ListN.{length, get_or}
use Rattle.base.specs.Lists.{fill_to, fill_ext}
use Rattle.base.specs.Sum.{sum_to_ext, sum_to_cut}
use Rattle.boxes.proofs.Runs.{place, own_place}
use Rattle.boxes.proofs.Filled.{filled_at, fill_again, prefix_le}
use Rattle.boxes.specs.Runs.{Inside}
use Rattle.pruned_wide.specs.Wide.{squared, row_squares}

-- first: what the row is added to at each place
module _ (boxes numbers : List ℕ) (first : ℕ → ℕ) (at own m span : ℕ) (long : span ≤ length numbers) where
  abbrev with : ℕ → ℕ → ℕ
  with q t = first t + row_squares boxes (at + t) own m q

  abbrev pub added : ℕ → List ℕ
  added q = fill_to numbers 0 (with q) span

  -- the squares of a row from the one at q on
  run : (q c t : ℕ) → row_squares boxes (at + t) own m (q + c)
      ≡ row_squares boxes (at + t) own m q + row_squares boxes (at + m * q + t) (own + m * q) m c
  run q c t =
      let f : ℕ → ℕ = λ i. squared (get_or boxes (own + m * i) 0) (get_or boxes (at + t + m * i) 0) in
      let g : ℕ → ℕ = λ i. squared (get_or boxes (own + m * q + m * i) 0) (get_or boxes (at + m * q + t + m * i) 0) in
      omega (
        arith,
        sum_to_cut f q c,
        sum_to_ext g (λ i. f (q + i)) c (λ i hi. ap₂ (λ (u v : ℕ). squared (get_or boxes u 0) (get_or boxes v 0)) (own_place m own q i) (place m at t q i)),
      )

  run_is : (q c : ℕ) → fill_to (added q) 0 (λ t. get_or (added q) t 0 + row_squares boxes (at + m * q + t) (own + m * q) m c) span ≡ added (q + c)
  run_is q c =
      fill_again numbers (with q) _ span
      ∙ fill_ext numbers 0 _ (with (q + c)) span (λ t ht. omega (arith, filled_at numbers (with q) span long t ht, run q c t))

  pub run_more : (q c : ℕ) (xs ys : List ℕ) → xs ≡ added q
      → ys ≡ fill_to xs 0 (λ t. get_or xs t 0 + row_squares boxes (at + m * q + t) (own + m * q) m c) span → ys ≡ added (q + c)
  run_more q c xs ys e f =
      f ∙ ap (λ (zs : List ℕ). fill_to zs 0 (λ t. get_or zs t 0 + row_squares boxes (at + m * q + t) (own + m * q) m c) span) e ∙ run_is q c

  module _ (k : ℕ) (inside : Inside boxes at own m k span) (bound : (t : ℕ) → t < span → first t + row_squares boxes (at + t) own m k ≤ 4294967295) where
    pub run_bound : (q c : ℕ) → q + c ≤ k → (t : ℕ) → t < span
        → get_or (added q) t 0 + row_squares boxes (at + m * q + t) (own + m * q) m c ≤ 4294967295
    run_bound q c h t ht =
        let f : ℕ → ℕ = λ i. squared (get_or boxes (own + m * i) 0) (get_or boxes (at + t + m * i) 0) in
        omega (arith, filled_at numbers (with q) span long t ht, bound t ht, run q c t, prefix_le f (q + c) k h)

    pub first_bound : (c : ℕ) → c ≤ k → (t : ℕ) → t < span → first t + row_squares boxes (at + t) own m c ≤ 4294967295
    first_bound c h t ht =
        let f : ℕ → ℕ = λ i. squared (get_or boxes (own + m * i) 0) (get_or boxes (at + t + m * i) 0) in
        omega (arith, bound t ht, prefix_le f c k h)

    pub first_inside : (c : ℕ) → c ≤ k → Inside boxes at own m c span
    first_inside c h = record {
      some = inside.some;
      older = λ t i ht hi. inside.older t i ht (omega arith);
      newer = λ i hi. inside.newer i (omega arith);
    }
