-- 01, "The four searches", search 2: "Cut a block into m × m squares; its distance at m is the sum over squares of the absolute difference of
-- pel sums." The pel sums of all m × m squares of a block's search window, and of the block itself, for m = 1, 2, 4, 8 and 16, in one array: the
-- sum of a square stands at the place of its first pel, in rows of N + 32 places for the window and of N for the block.
--   box            the sum of the m × m numbers from place t on, in rows of so many places
--   window_pels     an array with the pels of the search window in it, block_pels: and those of the block
--   doubled        what four boxes of m, side by side and one below the other, add up to
--   Cut            m is 1, 2, 4, 8 or 16, and at most N
--   area           the places of one m; level_at: where the boxes of m stand, own_at: those of the block itself
--   span_of         the places from the first candidate to the last; window_places, own_places: those that boxes of m fill
--   level_of        the places of m in numbers
--   whole_of        the sum of 32 × 32 pels by four boxes of 16
--   Levels         an array has the boxes of what stands in it at m = 1
--   Filled         an array has its own boxes, of numbers as small as pels
--   Boxed          it has those of a block and its search window, and they are the pel sums of squares of the block and of its candidates' older blocks
use Rattle.std.specs.Prelude.{ℕ, ◌+◌, ◌-◌, ◌*◌, ◌/◌, ◌^◌, ◌≤◌, ◌<◌, ◌≡◌, List, get_or}
use Rattle.base.specs.Sum.{sum_over}
use Rattle.frame.specs.Pictures.{pair_of}
use Rattle.frame.specs.declared.Region.{Region}
use Rattle.frame.specs.declared.SearchBlock.{SearchBlock}
use Rattle.refusals.specs.Cross.{log2}
use Rattle.distortion.specs.Blocks.{newer_block, older_block}
use Rattle.search.specs.Exhaustive.{grid_vector}
use Rattle.reach.specs.Reach.{reach, InReach}
use Rattle.window_copy.specs.Copy.{copied_rows}
use Rattle.pruned_rule.specs.Distance.{square_sum}
use Rattle.boxes.specs.declared.Level.{Level}

unfoldable pub box : (ℕ → ℕ) → ℕ → ℕ → ℕ → ℕ
box f pitch m t = sum_over m m (λ p q. f (t + p * pitch + q))

abbrev pub window_pels : List ℕ → SearchBlock → List ℕ → List ℕ
window_pels older b boxes =
    let r = reach b in
    let n = b.setting.n in
    let width = b.setting.width in
    copied_rows older width ((b.y + r.top - 16) * width + (b.x + r.left - 16)) (r.columns + n - 1) boxes 0 (n + 32) (r.rows + n - 1)

abbrev pub block_pels : List ℕ → SearchBlock → List ℕ → List ℕ
block_pels newer b boxes =
    let n = b.setting.n in
    let width = b.setting.width in
    copied_rows newer width (b.y * width + b.x) n boxes ((n + 32) * (n + 32)) n n

abbrev pub doubled : List ℕ → ℕ → ℕ → ℕ → ℕ → ℕ
doubled boxes from m below t =
    get_or boxes (from + t) 0 + get_or boxes (from + t + m) 0 + (get_or boxes (from + below + t) 0 + get_or boxes (from + below + t + m) 0)

pub record Cut (n m : ℕ) : Type 0 where
  pub exponent : ℕ
  pub few : exponent ≤ 4
  pub power : m ≡ 2 ^ exponent
  pub inside : m ≤ n

unfoldable pub area : ℕ → ℕ
area n = (n + 32) * (n + 32) + n * n

abbrev pub level_at : ℕ → ℕ → ℕ
level_at n m = log2 m * area n

abbrev pub own_at : ℕ → ℕ → ℕ
own_at n m = level_at n m + (n + 32) * (n + 32)

abbrev pub span_of : ℕ → Region → ℕ
span_of n r = (n + 32) * (r.rows - 1) + r.columns

abbrev pub window_places : ℕ → ℕ → ℕ → ℕ
window_places n span m = span + (n + 32 + 1) * (n - m)

abbrev pub own_places : ℕ → ℕ → ℕ
own_places n m = (n + 1) * (n - m) + 1

abbrev pub level_of : ℕ → ℕ → Level
level_of n m = record { m = m; k = n / m; at = level_at n m; own = own_at n m; pitch = n + 32; n = n }

abbrev pub whole_of : List ℕ → ℕ → ℕ → ℕ
whole_of boxes at below = get_or boxes at 0 + get_or boxes (at + 16) 0 + (get_or boxes (at + below) 0 + get_or boxes (at + below + 16) 0)

-- f: what stands at m = 1
pub record Levels (f : ℕ → ℕ) (n span : ℕ) (boxes : List ℕ) : Type 0 where
  pub window : (m t : ℕ) → Cut n m → t < window_places n span m → get_or boxes (level_at n m + t) 0 ≡ box f (n + 32) m t
  pub own : (m t : ℕ) → Cut n m → t < own_places n m → get_or boxes (own_at n m + t) 0 ≡ box (λ u. f ((n + 32) * (n + 32) + u)) n m t

-- and they are as small as those of pels
pub record Filled (n span : ℕ) (boxes : List ℕ) : Type 0 where
  pub levels : Levels (λ u. get_or boxes u 0) n span boxes
  pub window_small : (m t : ℕ) → Cut n m → t < window_places n span m → get_or boxes (level_at n m + t) 0 ≤ 255 * m * m
  pub own_small : (m t : ℕ) → Cut n m → t < own_places n m → get_or boxes (own_at n m + t) 0 ≤ 255 * m * m

pub record Boxed (older newer : List ℕ) (b : SearchBlock) (boxes : List ℕ) : Type 0 where
  -- also at places that no candidate has
  pub filled : Filled b.setting.n (span_of b.setting.n (reach b)) boxes
  -- the squares of the older block of a candidate, and of the block itself
  pub older_square : (i j m p q : ℕ) → InReach (reach b) i j → Cut b.setting.n m → p < b.setting.n / m → q < b.setting.n / m
      → get_or boxes (level_at b.setting.n m + ((b.setting.n + 32) * (i - (reach b).top + p * m) + (j - (reach b).left + q * m))) 0
      ≡ square_sum (older_block (pair_of older newer b.setting) b.y b.x (grid_vector i j)) m p q
  pub newer_square : (m p q : ℕ) → Cut b.setting.n m → p < b.setting.n / m → q < b.setting.n / m
      → get_or boxes (own_at b.setting.n m + (b.setting.n * (p * m) + q * m)) 0
      ≡ square_sum (newer_block (pair_of older newer b.setting) b.y b.x) m p q
