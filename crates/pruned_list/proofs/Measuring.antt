-- Measuring the listed: the older block of a spot, and the least key so far, as a loop carries it along from a number that no key reaches.
--   spot_behind        the older block's row and column are not less than 0; spot_block: it can be compared with the newer block
--   distortion_small   a distortion of frames of bytes is below 2^27
--   nearest_more       the least of one key more
--   least_more         one key more; least_first: in the end the number that began is not the least
use Prim.Native.Nat.{ℕ, ◌+◌, ◌-◌, ◌/◌, ◌%◌, ◌≤◌, ◌<◌, min}
use mathlib.Core.Path.{◌≡◌, refl, ap, ◌∙◌}
use mathlib.Core.Bool.{Bool, true, false, cond}
use mathlib.Core.List.{List, [], ◌∷◌}
use native.Mathlib.Nat.{le_trans, zero-lt-suc}
use native.Mathlib.Omega.{arith}
use borrow.Author.Tests.{ltb-true, ltb-false, lt-ltb}
use lib.Dec.{ltb}
use lib.ListN.{length, get_or, take, length-take}
use Rattle.base.specs.Lists.{list_to, list_to_more, length_list_to, get_d_list_to}
use Rattle.base.specs.Least.{better, least_of, least_from, least_of_more, take_more}
use Rattle.order.specs.declared.Vector.{Vector}
use Rattle.frame.specs.declared.SearchBlock.{SearchBlock}
use Rattle.frame.specs.Pictures.{pair_of}
use Rattle.distortion.specs.Blocks.{Comparable, Bytes, distortion_most, distortion_largest}
use Rattle.search.specs.Target.{Ready}
use Rattle.reach.specs.Reach.{reach}
use Rattle.reach.proofs.Candidates.{Bounds, ready_standing, reach_bounds}
use Rattle.pruned_list.specs.Listed.{SpotIn, distortion_to}

module _ (older newer : List ℕ) (b : SearchBlock) (ready : Ready older newer b) where
  module _ (t : ℕ) (on : SpotIn b t) where
    bounds : Bounds b (reach b)
    bounds = reach_bounds b (ready_standing older newer b ready)

    pub spot_behind : (16 ≤ b.y + t / 64) × (16 ≤ b.x + t % 64)
    spot_behind = (omega (arith, bounds.first_row, on.top), omega (arith, bounds.first_column, on.left))

    pub spot_block : Comparable older newer b.setting b.y b.x (b.y + t / 64 - 16) (b.x + t % 64 - 16)
    spot_block = record {
      placed = ready.placed;
      down = omega (arith, bounds.last_row, on.bottom, spot_behind);
      across = omega (arith, bounds.last_column, on.right, spot_behind);
    }

  pub distortion_small : Bytes older → Bytes newer → (v : Vector) → distortion_to older newer b v < 134217728
  distortion_small o n v =
      let p = pair_of older newer b.setting in
      omega (arith, le_trans (distortion_most p b.y b.x v o n) (distortion_largest b.setting.measure b.setting.n ready.placed.paired.allowed))

better_min : (a k : ℕ) → better (λ k. k) a k ≡ min a k
better_min a k = go (ltb k a) refl
  where
    go : (t : Bool) → ltb k a ≡ t → cond t k a ≡ min a k
    go true e = omega (arith, ltb-true k a e)
    go false e = omega (arith, ltb-false k a e)

-- a turn of the loop that has the least of the first i as b
pub nearest_more : (ks : List ℕ) (i b : ℕ) → b ≡ least_of (λ k. k) (take i ks) → 0 < i → i < length ks → min b (get_or ks i 0) ≡ least_of (λ k. k) (take (i + 1) ks)
nearest_more ks i b e p h =
    rw (take_more ks i h, least_of_more (λ k. k) (take i ks) (get_or ks i 0) (omega (arith, length-take i ks)), better_min) (ap (λ (x : ℕ). min x (get_or ks i 0)) e)

pub least_more : (s : ℕ) (f : ℕ → ℕ) (i : ℕ) → least_of (λ k. k) (s ∷ list_to f (i + 1)) ≡ min (least_of (λ k. k) (s ∷ list_to f i)) (f i)
least_more s f i =
    ap (λ (l : List ℕ). least_of (λ k. k) (s ∷ l)) (list_to_more f i)
    ∙ least_of_more (λ k. k) (s ∷ list_to f i) (f i) (zero-lt-suc _)
    ∙ better_min _ (f i)

pub least_first : (s : ℕ) (f : ℕ → ℕ) (n : ℕ) → 0 < n → f 0 < s → least_of (λ k. k) (s ∷ list_to f n) ≡ least_of (λ k. k) (list_to f n)
unfolding least_of least_from
least_first s f n h l = go (list_to f n) (rw length_list_to h) (rw (get_d_list_to f n 0 0 h) l)
  where
    go : (ks : List ℕ) → 0 < length ks → get_or ks 0 0 < s → least_of (λ k. k) (s ∷ ks) ≡ least_of (λ k. k) ks
    go [] p q = absurd (omega arith)
    go (k ∷ ks) p q = ap (λ (t : Bool). least_from (λ k. k) (cond t k s) ks) (lt-ltb k s q)
