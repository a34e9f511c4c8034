-- 01, "The four searches", search 2: "Cut a block into m × m squares; its distance at m is the sum over squares of the absolute difference of
-- pel sums." 02, request 1: by squares, of "the squared difference of pel sums". How that is looked up in an array of boxes: the proofs' Looked has
-- that it is the distance.
--   box_run        the differences of k squares in a row; box_rows: those of all squares of the candidate at place t
--   box_whole      the difference of whole blocks of 32
--   side_of        the side of the boxes that are looked up for m
--   box_distance   the distance at m of the candidate at place t
--   place_on       the place of a spot; looked_up: its candidate's distance at m
--   Distanced     keys with the distances of their candidates, where the boxes are a block's
--   Covered       all squares of the candidate at place t lie in the array
--   Near          an array with the boxes of N, an m that is looked up in them, and a place that a candidate may have
use Rattle.std.specs.Prelude.{ℕ, ◌+◌, ◌-◌, ◌*◌, ◌/◌, ◌%◌, ◌≤◌, ◌<◌, ◌≡◌, cond, List, eqb, length, get_or}
use Rattle.base.specs.Sum.{sum_to}
use Rattle.base.specs.Lists.{fill_to}
use Rattle.measures.specs.Measures.{measure_of}
use Rattle.frame.specs.declared.Region.{Region}
use Rattle.frame.specs.declared.SearchBlock.{SearchBlock}
use Rattle.reach.specs.Reach.{reach}
use Rattle.pruned_rule.specs.Spots.{vector_on}
use Rattle.boxes.specs.Boxes.{Cut, area, level_of, whole_of, Boxed}
use Rattle.boxes.specs.Distances.{distance_to}
use Rattle.boxes.specs.declared.Level.{Level}
use Rattle.pruned_list.specs.Listed.{spot_of, renewed}

abbrev pub box_run : ℕ → List ℕ → ℕ → ℕ → ℕ → ℕ → ℕ
box_run measure boxes m a o k = sum_to (λ q. (measure_of measure).diff (get_or boxes (o + q * m) 0) (get_or boxes (a + q * m) 0)) k

abbrev pub box_rows : ℕ → List ℕ → Level → ℕ → ℕ
box_rows measure boxes l t =
    sum_to (λ p. box_run measure boxes l.m (l.at + t + l.pitch * (p * l.m)) (l.own + l.n * (p * l.m)) l.k) l.k

abbrev pub box_whole : ℕ → List ℕ → Level → ℕ → ℕ
box_whole measure boxes l t = (measure_of measure).diff (whole_of boxes l.own 512) (whole_of boxes (l.at + t) 1024)

unfoldable pub side_of : ℕ → ℕ
side_of m = cond (eqb m 32) 16 m

unfoldable pub box_distance : ℕ → List ℕ → ℕ → Level → ℕ → ℕ
box_distance measure boxes m l t = cond (eqb m 32) (box_whole measure boxes l t) (box_rows measure boxes l t)

abbrev pub place_on : ℕ → Region → ℕ → ℕ
place_on pitch r spot = pitch * (spot / 64 - r.top) + (spot % 64 - r.left)

abbrev pub looked_up : ℕ → List ℕ → ℕ → ℕ → Region → ℕ → ℕ
looked_up measure boxes n m r spot = box_distance measure boxes m (level_of n (side_of m)) (place_on (n + 32) r spot)

abbrev pub Distanced : ℕ → List ℕ → ℕ → ℕ → Region → List ℕ → ℕ → List ℕ → Type 0
Distanced measure boxes n m r keys count after =
    (older newer : List ℕ) (b : SearchBlock) → Boxed older newer b boxes → n ≡ b.setting.n → r ≡ reach b
    → after ≡ fill_to keys 0 (λ i. renewed (get_or keys i 0) (distance_to older newer b measure m (vector_on (spot_of (get_or keys i 0))))) count

pub record Covered (boxes : List ℕ) (l : Level) (t : ℕ) : Type 0 where
  pub few : l.k ≤ 32
  pub side : l.m ≤ 32
  pub start : l.at + t < length boxes
  pub older : (p q : ℕ) → p < l.k → q < l.k → l.at + t + l.pitch * (p * l.m) + q * l.m < length boxes
  pub newer : (p q : ℕ) → p < l.k → q < l.k → l.own + l.n * (p * l.m) + q * l.m < length boxes

pub record Near (boxes : List ℕ) (n m t : ℕ) : Type 0 where
  pub small : n ≤ 32
  pub cut : Cut n (side_of m)
  pub whole : m ≡ 32 → n ≡ 32
  pub room : 5 * area n ≤ length boxes
  pub place : t ≤ (n + 32) * 32 + 32
