-- Squares in a row of a block, taken in runs of 1, 2 or 4 at a time, and the array in which the distances of all candidates are added up.
--   places    of that array
--   carried   what a number so far counts for: nothing where the numbers start afresh
--   Runs      k squares are 1, 2, or some times 4
--   Inside    the squares of a row lie inside the array of boxes, for all places
use Rattle.std.specs.Prelude.{ℕ, ◌+◌, ◌*◌, ◌<◌, ◌≡◌, ◌⊎◌, Bool, cond, List, length}

abbrev pub places : ℕ
places = 2088

abbrev pub carried : Bool → ℕ → ℕ
carried fresh x = cond fresh 0 x

pub record Fours (k : ℕ) : Type 0 where
  pub fours : ℕ
  pub is : k ≡ 4 * fours

abbrev pub Runs : ℕ → Type 0
Runs k = (k ≡ 1) ⊎ ((k ≡ 2) ⊎ Fours k)

pub record Inside (boxes : List ℕ) (at own m count size : ℕ) : Type 0 where
  pub some : 0 < size
  pub older : (t q : ℕ) → t < size → q < count → at + t + m * q < length boxes
  pub newer : (q : ℕ) → q < count → own + m * q < length boxes
