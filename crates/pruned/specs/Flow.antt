-- 01, "The four searches", search 2, as the code goes: without a list while many candidates remain, for after the test at m those remain that are
-- within the limit at m, of all candidates. That this is search 2 of pruned_rule/specs/Prune.antt: proofs/Flow.antt.
-- Candidates are known by their spots (pruned_rule/specs/Spots.antt).
--   dist_of      the distance at m of a vector for a block; limit_of: how far a distance may go
--   left_at      the spots of the candidates within the limit at m for E
--   bound_by     E after it was lowered at m to the distortion of a vector: at N it is not; bound_at: to that of the nearest
--   Distances   an array has a cost of all candidates, at the places where their first boxes stand
--   fits        distances at m have 32 bits: by absolute differences always, by squares where N × m is at most 256
--   few         up to so many candidates are listed and looked up one by one; by_all: more are tested by the distances of all, where these fit
--   Held        the candidates of some spots are in memory: how many, and their keys, unless they are tested at m by the distances of all
--   Facing      they are what the test at m may look at: the nearest of them is the nearest of all, and what it keeps of them it keeps of all
--   Leveled     after the test at m
--   Search      a block to be searched at m, with its boxes
--   is_blank     the paper is blank; blank_answer: the answer then
--   Closing     at the end, or where one candidate remains
--   next_of      the resolution after m, with so many candidates: 1 where one remains
--   first_slot   where the count at N stands among the six: they end with that, those at the resolutions after N and the one at m = 1
--   Roomy       so many keys are room for the list: for few, and for all candidates where distances at N have no 32 bits
use Rattle.std.specs.Prelude.{ℕ, ◌+◌, ◌-◌, ◌*◌, ◌/◌, ◌^◌, ◌≤◌, ◌<◌, min, ◌≡◌, Bool, false, cond, ◌||◌, ◌&&◌, List, ◌++◌, eqb, leb, ltb, pos, length, take, replicate}
use Rattle.base.specs.Least.{◌∈◌}
use Rattle.measures.specs.Measures.{measure_of}
use Rattle.order.specs.declared.Vector.{Vector}
use Rattle.order.specs.Vectors.{vec}
use Rattle.frame.specs.Pictures.{count_number}
use Rattle.frame.specs.declared.Region.{Region}
use Rattle.frame.specs.declared.Setting.{Setting}
use Rattle.frame.specs.declared.SearchBlock.{SearchBlock}
use Rattle.search.specs.declared.SearchResult.{SearchResult}
use Rattle.search.specs.SearchResult.{search_result}
use Rattle.search.specs.Target.{Ready}
use Rattle.search.specs.Exhaustive.{grid_vector}
use Rattle.reach.specs.Reach.{reach, InReach}
use Rattle.window_copy.specs.Grey.{one_grey}
use Rattle.pruned_rule.specs.Prune.{resolutions}
use Rattle.pruned_rule.specs.Spots.{spots, vector_on, kept_on, Chosen, choice_of}
use Rattle.boxes.specs.Boxes.{area, Boxed}
use Rattle.boxes.specs.Distances.{distance_to}
use Rattle.pruned_list.specs.Listed.{keys_of, distortion_to}
use Rattle.pruned_sift.specs.Laid.{number_at}
use Rattle.pruned.specs.declared.Remaining.{Remaining}

abbrev pub dist_of : List ℕ → List ℕ → SearchBlock → ℕ → Vector → ℕ
dist_of older newer b = distance_to older newer b b.setting.measure

abbrev pub limit_of : SearchBlock → ℕ → ℕ → ℕ
limit_of b = (measure_of b.setting.measure).limit

abbrev pub left_at : List ℕ → List ℕ → SearchBlock → ℕ → ℕ → List ℕ
left_at older newer b m e = kept_on (dist_of older newer b) (limit_of b) m e (spots (reach b))

unfoldable pub bound_by : List ℕ → List ℕ → SearchBlock → ℕ → Vector → ℕ → ℕ
bound_by older newer b m v e = cond (ltb m b.setting.n) (min e (distortion_to older newer b v)) e

abbrev pub bound_at : List ℕ → List ℕ → SearchBlock → ℕ → ℕ → ℕ
bound_at older newer b m e = bound_by older newer b m (choice_of b (dist_of older newer b m)) e

abbrev pub Distances : (Vector → ℕ) → SearchBlock → List ℕ → Type 0
Distances cost b numbers =
    (i j : ℕ) → InReach (reach b) i j → number_at numbers (b.setting.n + 32) (reach b) i j ≡ cost (grid_vector i j)

unfoldable pub fits : Setting → ℕ → Bool
fits s m = eqb s.measure 1 || leb (s.n * m) 256

abbrev pub few : ℕ
few = 64

abbrev pub by_all : Setting → ℕ → ℕ → Bool
by_all s m count = ltb few count && fits s m

unfoldable pub next_of : ℕ → ℕ → ℕ
next_of m count = cond (eqb count 1) 1 (m / 2)

abbrev pub first_slot : ℕ → ℕ
first_slot n = count_number - (length (resolutions n) + 2)

abbrev pub Roomy : Setting → ℕ → Type 0
Roomy s room = (few < room) × (fits s s.n ≡ false → 1089 ≤ room)

-- the search window has one grey, and (0,0) has the distortion e, which is 0
abbrev pub is_blank : List ℕ → SearchBlock → ℕ → Bool
is_blank older b e =
    let r = reach b in
    let n = b.setting.n in
    let width = b.setting.width in
    eqb e 0 && one_grey older width ((b.y + r.top - 16) * width + (b.x + r.left - 16)) (r.rows + n - 1) (r.columns + n - 1)

-- all candidates remain to the end without distortion, and (0,0) is the first of them
abbrev pub blank_answer : ℕ → ℕ → SearchResult
blank_answer n total =
    search_result (vec (pos 0) (pos 0)) 0 (take (first_slot n) (replicate count_number 0) ++ replicate (count_number - first_slot n) total) 0

pub record Held (b : SearchBlock) (m : ℕ) (ts keys : List ℕ) (q : Remaining) : Type 0 where
  pub many : length ts ≡ q.count
  pub listed : by_all b.setting m q.count ≡ false → (q.count ≤ length keys) × ((cost : Vector → ℕ) × (take q.count keys ≡ keys_of cost ts))

pub record Facing (older newer : List ℕ) (b : SearchBlock) (m : ℕ) (keys : List ℕ) (q : Remaining) : Type 0 where
  pub ts : List ℕ
  pub held : Held b m ts keys q
  pub some : 0 < q.count
  pub among : (t : ℕ) → t ∈ ts → t ∈ spots (reach b)
  pub nearest : m < b.setting.n → (t : ℕ) → Chosen (dist_of older newer b m) ts t → vector_on t ≡ choice_of b (dist_of older newer b m)
  pub same : (f : ℕ) → f ≤ q.bound → kept_on (dist_of older newer b) (limit_of b) m f ts ≡ left_at older newer b m f

pub record Leveled (older newer : List ℕ) (b : SearchBlock) (m e : ℕ) (keys : List ℕ) (q : Remaining) : Type 0 where
  pub bound : q.bound ≡ bound_at older newer b m e
  pub held : Held b m (left_at older newer b m q.bound) keys q

pub record Search (older newer : List ℕ) (b : SearchBlock) (r : Region) (boxes : List ℕ) (m : ℕ) : Type 0 where
  pub ready : Ready older newer b
  pub region : r ≡ reach b
  pub boxed : Boxed older newer b boxes
  pub room : 5 * area b.setting.n ≤ length boxes
  -- m is a resolution
  pub exponent : ℕ
  pub power : m ≡ 2 ^ exponent
  pub inside : m ≤ b.setting.n

-- the best of the candidates in memory is the best of all
pub record Closing (older newer : List ℕ) (b : SearchBlock) (keys : List ℕ) (q : Remaining) : Type 0 where
  pub ts : List ℕ
  pub m : ℕ
  pub held : Held b m ts keys q
  pub some : 0 < q.count
  pub among : (t : ℕ) → t ∈ ts → t ∈ spots (reach b)
  pub best : (t : ℕ) → Chosen (distortion_to older newer b) ts t → vector_on t ≡ choice_of b (distortion_to older newer b)
