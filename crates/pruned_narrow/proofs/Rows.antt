-- A row of squares by its runs.
--   row_first    before the first run, run_more: a run
--   run_bound    what a run adds fits
use Prim.Native.Nat.{ℕ, ◌+◌, ◌-◌, ◌*◌, ◌≤◌, ◌<◌}
use mathlib.Core.Path.{◌≡◌, ap, ap₂, ◌∙◌}
use mathlib.Core.List.{List}
use native.Mathlib.Omega.{arith}
use lib.ListN.{length, get_or}
use Rattle.base.specs.Lists.{fill_to, fill_ext}
use Rattle.base.specs.Sum.{sum_to_none, sum_to_ext, sum_to_cut}
use Rattle.boxes.specs.Runs.{Inside}
use Rattle.boxes.proofs.Filled.{filled_at, fill_again, prefix_le}
use Rattle.boxes.proofs.Runs.{place, own_place}
use Rattle.pruned_narrow.specs.Narrow.{row_sum, row_more}
use Rattle.pruned_narrow.proofs.Sums.{fill_same, minus_le}

module _ (boxes part : List ℕ) (at own m k size : ℕ) (long : size ≤ length part) (inside : Inside boxes at own m k size)
    (bound : (t : ℕ) → t < size → get_or part t 0 + row_sum boxes (at + t) m k ≤ 65535) where
  abbrev with : ℕ → ℕ → ℕ
  with q t = get_or part t 0 + row_more boxes (at + t) own m q

  abbrev pub added : ℕ → List ℕ
  added q = fill_to part 0 (with q) size

  pub row_first : part ≡ added 0
  row_first = fill_same part (with 0) size long (λ t h. omega (arith, sum_to_none (λ q. get_or boxes (at + t + m * q) 0 - get_or boxes (own + m * q) 0)))

  pub run_bound : (q c : ℕ) → q + c ≤ k → (t : ℕ) → t < size → get_or (added q) t 0 + row_sum boxes (at + m * q + t) m c ≤ 65535
  run_bound q c h t ht =
      let f : ℕ → ℕ = λ i. get_or boxes (at + t + m * i) 0 in
      omega (
        arith,
        filled_at part (with q) size long t ht,
        bound t ht,
        minus_le f (λ i. get_or boxes (own + m * i) 0) q,
        sum_to_cut f q c,
        prefix_le f (q + c) k h,
        sum_to_ext (λ i. get_or boxes (at + m * q + t + m * i) 0) (λ i. f (q + i)) c (λ i hi. ap (λ (u : ℕ). get_or boxes u 0) (place m at t q i)),
      )

  run_is : (q c : ℕ) → fill_to (added q) 0 (λ t. get_or (added q) t 0 + row_more boxes (at + m * q + t) (own + m * q) m c) size ≡ added (q + c)
  run_is q c =
      fill_again part (with q) _ size
      ∙ fill_ext part 0 _ (with (q + c)) size (λ t ht.
      let g : ℕ → ℕ = λ i. get_or boxes (at + t + m * i) 0 - get_or boxes (own + m * i) 0 in
      omega (
        arith,
        filled_at part (with q) size long t ht,
        sum_to_cut g q c,
        sum_to_ext (λ i. get_or boxes (at + m * q + t + m * i) 0 - get_or boxes (own + m * q + m * i) 0) (λ i. g (q + i)) c (λ i hi.
            ap₂ (λ (u v : ℕ). get_or boxes u 0 - get_or boxes v 0) (place m at t q i) (own_place m own q i)),
      ))

  pub run_more : (q c : ℕ) (xs ys : List ℕ) → xs ≡ added q
      → ys ≡ fill_to xs 0 (λ t. get_or xs t 0 + row_more boxes (at + m * q + t) (own + m * q) m c) size → ys ≡ added (q + c)
  run_more q c xs ys e f =
      f ∙ ap (λ (zs : List ℕ). fill_to zs 0 (λ t. get_or zs t 0 + row_more boxes (at + m * q + t) (own + m * q) m c) size) e ∙ run_is q c
