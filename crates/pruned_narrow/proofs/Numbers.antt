-- What the loops compute are the distances of a block's candidates.
--   number_whole   which distance there is at 32, number_other: and at any other m
--   whole_large    m = 32 is of N 32 alone, other_cut: any other m has boxes
--   small          any other N is at most 16
--   numbered       distances in the array are those of the rules
use Prim.Native.Nat.{ℕ, ◌+◌, ◌-◌, ◌*◌, ◌/◌, ◌≤◌, ◌<◌}
use mathlib.Core.Path.{◌≡◌, refl, sym, ap, ap₂, ◌∙◌, subst}
use mathlib.Core.Logic.{inl, inr}
use mathlib.Core.List.{List}
use native.Mathlib.Nat.{pow-le-pow_right, zero-lt-suc}
use native.Mathlib.Omega.{arith}
use lib.Dec.{T}
use lib.ListN.{length, get_or}
use Rattle.base.specs.Lists.{fill_to, fill_ext}
use borrow.Author.Tests.{eq-eqb, ne_eqb}
use Rattle.base.specs.Sum.{sum_to, sum_over_ext}
use Rattle.signed.specs.Values.{abs_diff}
use Rattle.measures.specs.Measures.{measure_of, measure_absolute}
use Rattle.frame.specs.declared.SearchBlock.{SearchBlock}
use Rattle.refusals.specs.Refusals.{block_size_ok, block_size_elim}
use Rattle.distortion.specs.Blocks.{Block}
use Rattle.search.specs.Exhaustive.{grid_vector}
use Rattle.reach.specs.Reach.{reach, InReach}
use Rattle.pruned_rule.specs.Distance.{square_sum, distance_by}
use Rattle.boxes.specs.Boxes.{Cut, level_at, own_at, whole_of, Boxed}
use Rattle.boxes.specs.Distances.{Resolution, distance_to, Numbered}
use Rattle.boxes.proofs.Whole.{whole_older, whole_newer}
use Rattle.boxes.proofs.Filled.{filled_at}
use Rattle.boxes.proofs.Runs.{place_in, older_index, newer_index}
use Rattle.pruned_narrow.specs.Narrow.{distance_at, whole_at, number_of}

-- ---- which distance

pub number_whole : (boxes : List ℕ) (n m : ℕ) → m ≡ 32 → (t : ℕ) → number_of boxes n m t ≡ whole_at boxes t
unfolding number_of
number_whole boxes n m e t = rw (eq-eqb m 32 e)

cut_low : (n m : ℕ) → Cut n m → m ≡ 32 → ⊥
cut_low n m c e = absurd (omega (arith, c.power, pow-le-pow_right {n = 2} (zero-lt-suc 1) c.few))

pub number_other : (boxes : List ℕ) (n m : ℕ) → Cut n m → (t : ℕ) → number_of boxes n m t ≡ distance_at boxes n m t
unfolding number_of
number_other boxes n m c t = rw (ne_eqb m 32 (cut_low n m c))

pub whole_large : (n m : ℕ) → Resolution n m → m ≡ 32 → n ≡ 32
whole_large n m (inl c) e = absurd (cut_low n m c e)
whole_large n m (inr k) e = k.0

pub other_cut : (n m : ℕ) → Resolution n m → (m ≡ 32 → ⊥) → Cut n m
other_cut n m (inl c) h = c
other_cut n m (inr k) h = absurd (h k.1)

pub small : (n : ℕ) → T (block_size_ok n) → (n ≡ 32 → ⊥) → n ≤ 16
small =
    block_size_elim (λ n. (n ≡ 32 → ⊥) → n ≤ 16) (λ h. omega arith) (λ h. omega arith) (λ h. omega arith) (λ h. absurd (h refl))

-- a block of 32 is one square of 32
whole_distance : (n : ℕ) → n ≡ 32 → (a b : Block) → abs_diff (square_sum a 32 0 0) (square_sum b 32 0 0) ≡ distance_by (measure_of 1) n 32 a b
unfolding distance_by sum_to
whole_distance n e a b = rw (e, measure_absolute 1 refl) (omega arith)

-- ---- the distances

module _ (older newer : List ℕ) (b : SearchBlock) (boxes : List ℕ) (x : Boxed older newer b boxes) (m : ℕ) (i j : ℕ) (h : InReach (reach b) i j) where
  abbrev n : ℕ
  n = b.setting.n

  abbrev y : ℕ
  y = i - (reach b).top

  abbrev z : ℕ
  z = j - (reach b).left

  distance_is : Cut n m → distance_at boxes n m ((n + 32) * y + z) ≡ distance_to older newer b 1 m (grid_vector i j)
  unfolding distance_by
  distance_is cut =
      rw (measure_absolute 1 refl)
      (sum_over_ext (n / m) (n / m) _ _ (λ p q hp hq.
      ap₂ abs_diff (ap (λ (u : ℕ). get_or boxes u 0) (newer_index n m y z p q) ∙ x.newer_square m p q cut hp hq)
      (ap (λ (u : ℕ). get_or boxes u 0) (older_index n m y z p q) ∙ x.older_square i j m p q h cut hp hq)))

  -- whole blocks
  whole_is : n ≡ 32 → whole_at boxes ((n + 32) * y + z) ≡ distance_to older newer b 1 32 (grid_vector i j)
  whole_is large =
      let own : 512 ≡ 16 * n = omega (arith, large) in
      let below : 1024 ≡ 16 * (n + 32) = omega (arith, large) in
      ap (λ (c : ℕ). abs_diff (whole_of boxes (own_at c 16) 512) (whole_of boxes (level_at c 16 + ((n + 32) * y + z)) 1024)) (sym large)
      ∙ ap₂ abs_diff (ap (λ (u : ℕ). whole_of boxes (own_at n 16) u) own ∙ whole_newer older newer b large boxes x)
      (ap (λ (u : ℕ). whole_of boxes (level_at n 16 + ((n + 32) * y + z)) u) below ∙ whole_older older newer b large boxes x i j h)
      ∙ whole_distance n large _ _

  number_is : Resolution n m → number_of boxes n m ((n + 32) * y + z) ≡ distance_to older newer b 1 m (grid_vector i j)
  number_is (inl cut) = number_other boxes n m cut _ ∙ distance_is cut
  number_is (inr e) =
      number_whole boxes n m e.1 _ ∙ whole_is e.0 ∙ ap (λ (c : ℕ). distance_to older newer b 1 c (grid_vector i j)) (sym e.1)

-- filled by g, which is the distance
pub numbered : (boxes d xs : List ℕ) (n m span : ℕ) (g : ℕ → ℕ) → Resolution n m → span ≤ length d → ((t : ℕ) → g t ≡ number_of boxes n m t)
    → xs ≡ fill_to d 0 g span → (xs ≡ fill_to d 0 (number_of boxes n m) span) × Numbered 1 boxes n m span xs
numbered boxes d xs n m span g r long is e =
    let f = e ∙ fill_ext d 0 _ _ span (λ t h. is t) in (
      f,
      λ older newer b x en es i j h.
          let y = i - (reach b).top in
          let z = j - (reach b).left in
          let in_span : (n + 32) * y + z < span = rw (es, en) (place_in b i j h) in
          ap (λ (ys : List ℕ). get_or ys ((n + 32) * y + z) 0) f
          ∙ filled_at d (number_of boxes n m) span long ((n + 32) * y + z) in_span
          ∙ ap (λ (c : ℕ). number_of boxes c m ((c + 32) * y + z)) en
          ∙ number_is older newer b boxes x m i j h (subst (λ (c : ℕ). Resolution c m) en r),
    )
