-- Search 2 without its list. Where those within the limit at a resolution are so at the coarser one before it, those that remain are just the
-- candidates within the limit at the last resolution, and the nearest of them, first among equals, is the nearest of all.
--   Nests         within the limit at m for E: within it at the coarser k too, for this E and any greater; nests: so it is on blocks
--   Within        those left are just the candidates within the limit at m: start_within, round_within
--   kept_parted   a stricter test after a weaker one keeps what it keeps of all
--   kept_count    how many are within a limit; total_pick: a sum over the numbers below n that pass a test
--   least_of_all  the nearest that remains is the nearest of all; lower_of_all: so E is lowered to the distortion of that
--   Along         where a loop stands that halves m, with k the resolution before: along_first, along_more, along_last
use Prim.Native.Nat.{ℕ, zero, suc, ◌+◌, ◌/◌, ◌^◌, ◌≤◌, ◌<◌, ◌∣◌, min}
use mathlib.Core.Path.{◌≡◌, refl, sym, ap, ap₂, ◌∙◌, subst}
use mathlib.Core.Bool.{Bool, true, false, cond}
use mathlib.Core.List.{List, [], ◌∷◌}
use native.Mathlib.Nat.{le_refl, le_trans, lt_of_not-le, not-le_of_lt, min-le_left, pow-suc, one-le-pow, zero-lt-suc}
use native.Mathlib.Omega.{arith}
use borrow.Author.Tests.{lt-leb}
use lib.Dec.{leb}
use lib.ListN.{length}
use Rattle.base.specs.Sum.{sum_to}
use Rattle.base.specs.Least.{least_of, FirstLeast, least_of_first, least_of_unique, least_of_mem, least_of_le, mem_length}
use Rattle.base.specs.Picks.{pick}
use Rattle.measures.specs.Measures.{Measure}
use Rattle.distortion.specs.Blocks.{Block}
use Rattle.pruned_rule.specs.Distance.{distances}
use Rattle.pruned_rule.specs.Sift.{kept, total}
use Rattle.pruned_rule.specs.Prune.{Pruning, all_remaining, lower, sift}
use Rattle.pruned_rule.proofs.Parts.{Parted, stays, goes, empty, parted, parted_first, total_append}
use Rattle.pruned_rule.proofs.Pruned.{Holds, Safe, bound_ge}
use Rattle.pruned_rule.proofs.Search.{PowerOfTwo, half_pow, pow_dvd}
use Rattle.pruned_rule.proofs.Finer.{Nesting, finer}

abbrev pub Nests : (dist limit : ℕ → ℕ → ℕ) → ℕ → ℕ → Type 0
Nests dist limit m k = (c e f : ℕ) → e ≤ f → dist m c ≤ limit m e → dist k c ≤ limit k f

abbrev pub Within : (dist limit : ℕ → ℕ → ℕ) → List ℕ → ℕ → Pruning → Type 0
Within dist limit ks m s = s.left ≡ kept (dist m) (limit m s.bound) ks

-- the measure's limits nest at the resolutions that divide N
pub nests : (μ : Measure) → Nesting μ → (N : ℕ) (a : Block) (b : ℕ → Block) (m k : ℕ) → m ∣ k → k ∣ N → Nests (distances μ N a b) μ.limit m k
nests μ nesting N a b m k d h c e f g l = le_trans (finer μ nesting N a (b c) m k e d h l) (nesting.rises k g)

-- ---- lists

-- a stricter test after a weaker one is the stricter alone
pub kept_parted : {w : ℕ → ℕ} {o : ℕ} {ks ys ns : List ℕ} (v : ℕ → ℕ) (l : ℕ) → ((k : ℕ) → v k ≤ l → w k ≤ o) → Parted w o ks ys ns
    → kept v l ys ≡ kept v l ks
unfolding kept
kept_parted v l f empty = refl
kept_parted v l f (stays {k = k} h r) = ap (λ (xs : List ℕ). cond (leb (v k) l) (k ∷ xs) xs) (kept_parted v l f r)
kept_parted v l f (goes {k = k} h r) = rw (lt-leb (v k) l (lt_of_not-le (λ g. not-le_of_lt h (f k g)))) (kept_parted v l f r)

pub kept_count : (v : ℕ → ℕ) (l : ℕ) (ks : List ℕ) → length (kept v l ks) ≡ total (λ k. cond (leb (v k) l) 1 0) ks
unfolding kept total
kept_count v l [] = refl
kept_count v l (k ∷ ks) = step (leb (v k) l) (kept_count v l ks)
  where
    step : (t : Bool) → length (kept v l ks) ≡ total (λ k. cond (leb (v k) l) 1 0) ks
        → length (cond t (k ∷ kept v l ks) (kept v l ks)) ≡ cond t 1 0 + total (λ k. cond (leb (v k) l) 1 0) ks
    step true e = omega arith
    step false e = omega arith

pub total_pick : (g : ℕ → ℕ) (p : ℕ → Bool) (n : ℕ) → total g (pick p n) ≡ sum_to (λ i. cond (p i) (g i) 0) n
unfolding pick sum_to total
total_pick g p zero = refl
total_pick g p (suc n) = total_append g (pick p n) _ ∙ ap₂ ◌+◌ (total_pick g p n) (one (p n))
  where
    one : (t : Bool) → total g (cond t (n ∷ []) []) ≡ cond t (g n) 0
    one true = omega arith
    one false = refl

-- ---- the steps

pub start_within : (dist limit : ℕ → ℕ → ℕ) (ks : List ℕ) (e N : ℕ) → Within dist limit ks N (sift dist limit N (all_remaining e ks))
unfolding all_remaining sift
start_within dist limit ks e N = refl

module _ (D : ℕ → ℕ) (dist limit : ℕ → ℕ → ℕ) (ks : List ℕ) where
  -- k is the resolution before
  pub round_within : (m k : ℕ) (s : Pruning) → Nests dist limit m k → Within dist limit ks k s
      → Within dist limit ks m (sift dist limit m (lower D dist m s))
  unfolding lower sift
  round_within m k s nest w =
      ap (kept (dist m) _) w ∙ kept_parted (dist m) _ (λ c. nest c _ _ (min-le_left _ _)) (parted (dist k) (limit k s.bound) ks)

  module _ (m k : ℕ) (s : Pruning) (safe : Safe D dist limit m) (nest : Nests dist limit m k) (h : Holds D ks s) (w : Within dist limit ks k s) where
    -- the nearest of all at m is no farther than the best, which is within the limit: so it was never dropped, and is first among equals as before
    pub least_of_all : least_of (dist m) s.left ≡ least_of (dist m) ks
    least_of_all =
        let some = mem_length h.attained.1 in
        let near = le_trans (least_of_le (dist m) ks (least_of_mem D ks some)) (safe (least_of D ks) s.bound (bound_ge h)) in
        least_of_unique (subst (FirstLeast (dist m) _) (sym w)
        (parted_first (nest _ _ _ (le_refl _) near) (parted (dist k) (limit k s.bound) ks) (least_of_first (dist m) ks some)))

    pub lower_of_all : (lower D dist m s).bound ≡ min s.bound (D (least_of (dist m) ks))
    unfolding lower
    lower_of_all = ap (λ (c : ℕ). min s.bound (D c)) least_of_all

-- ---- a loop that halves m

abbrev pub Along : ℕ → ℕ → Type 0
Along k m = PowerOfTwo k × (m ≡ k / 2)

pub along_first : (N : ℕ) → PowerOfTwo N → Along N (N / 2)
along_first N power = (power, refl)

pub along_more : {k m : ℕ} → 2 ≤ m → Along k m → (m ∣ k) × Along m (m / 2)
along_more {k} {m} h ((zero, e), half) = absurd (omega arith)
along_more {k} {m} h ((suc j, e), half) =
    let q : m ≡ 2 ^ suc j = half ∙ ap (λ (x : ℕ). x / 2) e ∙ half_pow (suc j) in
    (rw (q, e) (pow_dvd (suc j)), ((j, q), refl))

pub along_last : {k m : ℕ} → m < 2 → Along k m → k ≡ 2
along_last {k} {m} h ((zero, e), half) = e
along_last {k} {m} h ((suc j, e), half) =
    let q : m ≡ 2 ^ suc j = half ∙ ap (λ (x : ℕ). x / 2) e ∙ half_pow (suc j) in
    absurd (omega (arith, pow-suc 2 j, one-le-pow j 2 (zero-lt-suc 1)))
