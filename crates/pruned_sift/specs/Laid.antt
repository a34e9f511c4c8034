-- A number a candidate, in an array that has a region's rows one behind the other, so many places apart.
--   Laid       the array has them all, and the region lies around the middle of window 16
--   number_at   the number of row i, column j of window 16; number_on: that on a spot
--   key_in      its key: the number, then the preference order
--   RowLeasts  the least number of each row, up to 2³² - 1; LowerBounds: no number of a row is less
--   row_spots   the spots of row i of the region
--   within     those of some spots whose number is within the limit; RowCounts: how many of each row are
--   Added      behind the first `at` of an array of keys the keys of some spots were stored, with distance 0
use Rattle.std.specs.Prelude.{ℕ, ◌+◌, ◌*◌, ◌-◌, ◌/◌, ◌%◌, ◌≤◌, ◌<◌, ◌≡◌, List, ◌++◌, length, get_or, take, drop}
use Rattle.base.specs.Lists.{list_to}
use Rattle.frame.specs.declared.Region.{Region}
use Rattle.reach.specs.Keys.{key_of}
use Rattle.full.specs.Rows.{Around, least_from}
use Rattle.pruned_rule.specs.Sift.{kept}
use Rattle.pruned_list.specs.Listed.{keys_of}

pub record Laid (numbers : List ℕ) (pitch : ℕ) (r : Region) : Type 0 where
  pub around : Around r
  pub narrow : pitch ≤ 64
  pub room : pitch * (r.rows - 1) + r.columns ≤ length numbers

abbrev pub number_at : List ℕ → ℕ → Region → ℕ → ℕ → ℕ
number_at numbers pitch r i j = get_or numbers (pitch * (i - r.top) + (j - r.left)) 0

abbrev pub number_on : List ℕ → ℕ → Region → ℕ → ℕ
number_on numbers pitch r t = number_at numbers pitch r (t / 64) (t % 64)

abbrev pub key_in : List ℕ → ℕ → Region → ℕ → ℕ → ℕ
key_in numbers pitch r i j = key_of (number_at numbers pitch r i j) i j

abbrev pub RowLeasts : List ℕ → ℕ → Region → List ℕ → Type 0
RowLeasts numbers pitch r least = (i : ℕ) → i < r.rows → get_or least i 0 ≡ least_from 4294967295 (λ k. get_or numbers k 0) (pitch * i) r.columns

abbrev pub LowerBounds : List ℕ → ℕ → Region → List ℕ → Type 0
LowerBounds numbers pitch r least = (i j : ℕ) → i < r.rows → j < r.columns → get_or least i 0 ≤ get_or numbers (pitch * i + j) 0

-- ---- lists

abbrev pub row_spots : Region → ℕ → List ℕ
row_spots r i = list_to (λ j. 64 * (r.top + i) + (r.left + j)) r.columns

abbrev pub within : List ℕ → ℕ → Region → ℕ → List ℕ → List ℕ
within numbers pitch r most ts = kept (number_on numbers pitch r) most ts

abbrev pub RowCounts : List ℕ → ℕ → Region → ℕ → List ℕ → Type 0
RowCounts numbers pitch r most counts = (i : ℕ) → i < r.rows → get_or counts i 0 ≡ length (within numbers pitch r most (row_spots r i))

pub record Added (ts before : List ℕ) (at : ℕ) (after : List ℕ) (n : ℕ) : Type 0 where
  pub many : n ≡ at + length ts
  pub front : take n after ≡ take at before ++ keys_of (λ v. 0) ts
  pub long : length after ≡ length before
  -- one place more may be written
  pub behind : drop (n + 1) after ≡ drop (n + 1) before
