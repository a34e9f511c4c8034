-- What is looked up is the distance.
--   rows_looked     at m up to 16, of all squares; whole_looked: at 32
--   looked_is       at every m, of the candidate on a spot
--   filled_looked   of all that are listed; distanced: so for the block that the boxes are of
use Prim.Native.Nat.{ℕ, ◌+◌, ◌-◌, ◌*◌, ◌/◌, ◌%◌, ◌<◌}
use mathlib.Core.Path.{◌≡◌, sym, ap, ap₂, subst, ◌∙◌}
use mathlib.Core.List.{List}
use native.Mathlib.Nat.{mul-add}
use native.Mathlib.Decide.{ℕ_discrete}
use native.Mathlib.Omega.{arith}
use lib.ListN.{get_or}
use Rattle.base.specs.Sum.{sum_to, sum_over_ext}
use Rattle.base.specs.Lists.{fill_to, fill_ext}
use Rattle.measures.specs.Measures.{Measure, measure_of}
use Rattle.frame.specs.declared.Region.{Region}
use Rattle.frame.specs.declared.SearchBlock.{SearchBlock}
use Rattle.distortion.specs.Blocks.{Block}
use Rattle.search.specs.Exhaustive.{grid_vector}
use Rattle.reach.specs.Reach.{reach, InReach}
use Rattle.pruned_rule.specs.Distance.{square_sum, distance_by}
use Rattle.pruned_rule.specs.Spots.{vector_on}
use Rattle.boxes.specs.Boxes.{Cut, level_at, own_at, level_of, whole_of, Boxed}
use Rattle.boxes.specs.Distances.{distance_to}
use Rattle.boxes.proofs.Whole.{whole_older, whole_newer}
use Rattle.pruned_list.specs.Listed.{spot_of, renewed}
use Rattle.pruned_lookup.specs.Lookup.{box_rows, box_whole, side_of, place_on, looked_up, Distanced, Near}
use Rattle.pruned_lookup.proofs.Sides.{side_whole, side_other, box-whole, box_other}

-- a block of 32 is one square of 32
one_square : (μ : Measure) (a b : Block) → distance_by μ 32 32 a b ≡ μ.diff (square_sum a 32 0 0) (square_sum b 32 0 0)
unfolding distance_by sum_to
one_square μ a b = omega arith

whole_distance : (μ : Measure) (n : ℕ) → n ≡ 32 → (a b : Block) → μ.diff (square_sum a 32 0 0) (square_sum b 32 0 0) ≡ distance_by μ n 32 a b
whole_distance μ n e a b = sym (one_square μ a b) ∙ ap (λ (u : ℕ). distance_by μ u 32 a b) (sym e)

module _ (older newer : List ℕ) (b : SearchBlock) (boxes : List ℕ) (k : Boxed older newer b boxes) (measure : ℕ) where
  abbrev n : ℕ
  n = b.setting.n

  module _ (i j : ℕ) (h : InReach (reach b) i j) where
    abbrev y : ℕ
    y = i - (reach b).top

    abbrev x : ℕ
    x = j - (reach b).left

    abbrev t : ℕ
    t = (n + 32) * y + x

    pub rows_looked : (m : ℕ) → Cut n m → box_rows measure boxes (level_of n m) t ≡ distance_to older newer b measure m (grid_vector i j)
    unfolding distance_by
    rows_looked m c =
        sum_over_ext (n / m) (n / m) _ _ (λ p q hp hq.
        ap₂ (measure_of measure).diff
        (ap (λ (u : ℕ). get_or boxes u 0) (own p q) ∙ k.newer_square m p q c hp hq)
        (ap (λ (u : ℕ). get_or boxes u 0) (at p q) ∙ k.older_square i j m p q h c hp hq))
      where
        own : (p q : ℕ) → own_at n m + n * (p * m) + q * m ≡ own_at n m + (n * (p * m) + q * m)
        own p q = omega arith

        at : (p q : ℕ) → level_at n m + t + (n + 32) * (p * m) + q * m ≡ level_at n m + ((n + 32) * (y + p * m) + (x + q * m))
        at p q = omega (arith, mul-add (n + 32) y (p * m))

    pub whole_looked : n ≡ 32 → box_whole measure boxes (level_of n 16) t ≡ distance_to older newer b measure 32 (grid_vector i j)
    whole_looked large =
        let own : 512 ≡ 16 * n = omega (arith, large) in
        let below : 1024 ≡ 16 * (n + 32) = omega (arith, large) in
        ap₂ (measure_of measure).diff
        (ap (λ (u : ℕ). whole_of boxes (own_at n 16) u) own ∙ whole_newer older newer b large boxes k)
        (ap (λ (u : ℕ). whole_of boxes (level_at n 16 + t) u) below ∙ whole_older older newer b large boxes k i j h)
        ∙ whole_distance (measure_of measure) n large _ _

  -- on a spot
  pub looked_is : (m spot : ℕ) → InReach (reach b) (spot / 64) (spot % 64) → (m ≡ 32 → n ≡ 32) → Cut n (side_of m)
      → looked_up measure boxes n m (reach b) spot ≡ distance_to older newer b measure m (vector_on spot)
  looked_is m spot h whole c = go (ℕ_discrete m 32)
    where
      go : Dec (m ≡ 32) → looked_up measure boxes n m (reach b) spot ≡ distance_to older newer b measure m (vector_on spot)
      go (yes e) =
          sym (box-whole measure boxes m (level_of n (side_of m)) _ e)
          ∙ ap (λ (s : ℕ). box_whole measure boxes (level_of n s) (place_on (n + 32) (reach b) spot)) (sym (side_whole m e))
          ∙ whole_looked (spot / 64) (spot % 64) h (whole e)
          ∙ ap (λ (s : ℕ). distance_to older newer b measure s (vector_on spot)) (sym e)
      go (no d) =
          sym (box_other measure boxes m (level_of n (side_of m)) _ d)
          ∙ ap (λ (s : ℕ). box_rows measure boxes (level_of n s) (place_on (n + 32) (reach b) spot)) (sym (side_other m d))
          ∙ rows_looked (spot / 64) (spot % 64) h m (subst (λ (s : ℕ). Cut n s) (sym (side_other m d)) c)

  -- the keys with the distances of their candidates
  pub filled_looked : (m : ℕ) (keys after : List ℕ) (count : ℕ) → (m ≡ 32 → n ≡ 32) → Cut n (side_of m)
      → ((i : ℕ) → i < count → InReach (reach b) (spot_of (get_or keys i 0) / 64) (spot_of (get_or keys i 0) % 64))
      → after ≡ fill_to keys 0 (λ i. renewed (get_or keys i 0) (looked_up measure boxes n m (reach b) (spot_of (get_or keys i 0)))) count
      → after ≡ fill_to keys 0 (λ i. renewed (get_or keys i 0) (distance_to older newer b measure m (vector_on (spot_of (get_or keys i 0))))) count
  filled_looked m keys after count whole c near e =
      e ∙ fill_ext keys 0 _ _ count (λ i h. ap (renewed (get_or keys i 0)) (looked_is m (spot_of (get_or keys i 0)) (near i h) whole c))

pub distanced : (measure : ℕ) (boxes : List ℕ) (n m t : ℕ) (r : Region) (keys : List ℕ) (count : ℕ) (after : List ℕ) → Near boxes n m t
    → ((i : ℕ) → i < count → InReach r (spot_of (get_or keys i 0) / 64) (spot_of (get_or keys i 0) % 64))
    → after ≡ fill_to keys 0 (λ i. renewed (get_or keys i 0) (looked_up measure boxes n m r (spot_of (get_or keys i 0)))) count
    → Distanced measure boxes n m r keys count after
distanced measure boxes n m t r keys count after near there e older newer b k en er =
    let whole : m ≡ 32 → b.setting.n ≡ 32 = λ h. sym en ∙ near.whole h in
    let cut : Cut b.setting.n (side_of m) = subst (λ (z : ℕ). Cut z (side_of m)) en near.cut in
    let fit = rw er at there in
    let is = rw (en, er) at e in
    filled_looked older newer b boxes k measure m keys after count whole cut fit is
