-- The candidates of a block row by row of window 16, over copies of the block and of its search window in rows of 64 places, and the least of their keys.
--   key_in_copy    the key of row i, column j by the copies: their distortion, then the order
--   key_at        the key of row i, column j: the distortion of its vector, then the order
--   window_copy   the copy of the search window: row i and column j of window 16 begin the older block of their vector
--   block_copy    the copy of the block
--   least_from    the least of a number and of g at n places from `from` on
--   Around       rows and columns of window 16 around the middle
--   Lowered      a key is the least of a key before it and those of row i in reach
--   LeastKey     a key is one of those in reach, and the least of them
use Rattle.std.specs.Prelude.{ℕ, zero, suc, ◌+◌, ◌-◌, ◌*◌, ◌≤◌, ◌<◌, min, ◌≡◌, ◌⊎◌, List}
use Rattle.measures.specs.Measures.{measure_of}
use Rattle.frame.specs.Pictures.{pair_of}
use Rattle.frame.specs.declared.Region.{Region}
use Rattle.frame.specs.declared.SearchBlock.{SearchBlock}
use Rattle.distortion.specs.Blocks.{rows_from, distortion}
use Rattle.search.specs.Exhaustive.{grid_vector}
use Rattle.window_copy.specs.Copy.{copied_rows}
use Rattle.reach.specs.Reach.{reach, InReach}
use Rattle.reach.specs.Keys.{key_of}

abbrev pub key_in_copy : ℕ → ℕ → List ℕ → List ℕ → ℕ → ℕ → ℕ
key_in_copy measure n window block i j = key_of (rows_from (measure_of measure) window block 64 0 (64 * i + j) n n) i j

abbrev pub key_at : List ℕ → List ℕ → SearchBlock → ℕ → ℕ → ℕ
key_at older newer b i j = key_of (distortion (pair_of older newer b.setting) b.y b.x (grid_vector i j)) i j

abbrev pub window_copy : List ℕ → SearchBlock → List ℕ → List ℕ
window_copy older b window =
    let r = reach b in
    let width = b.setting.width in
    copied_rows older width ((b.y + r.top - 16) * width + (b.x + r.left - 16)) (r.columns + b.setting.n - 1) window (64 * r.top + r.left) 64
    (r.rows + b.setting.n - 1)

abbrev pub block_copy : List ℕ → SearchBlock → List ℕ → List ℕ
block_copy newer b block = copied_rows newer b.setting.width (b.y * b.setting.width + b.x) b.setting.n block 0 64 b.setting.n

unfoldable pub least_from : ℕ → (ℕ → ℕ) → ℕ → ℕ → ℕ
least_from best g from zero = best
least_from best g from (suc n) = min (least_from best g from n) (g (from + n))

pub record Around (r : Region) : Type 0 where
  pub above : r.top ≤ 16
  pub below : 16 < r.top + r.rows
  pub few_rows : r.top + r.rows ≤ 33
  pub before : r.left ≤ 16
  pub behind : 16 < r.left + r.columns
  pub few_columns : r.left + r.columns ≤ 33

pub record Lowered (K : ℕ → ℕ → ℕ) (r : Region) (i best key : ℕ) : Type 0 where
  pub low : key ≤ best
  pub least : (j : ℕ) → InReach r i j → key ≤ K i j
  pub some : (key ≡ best) ⊎ ((j : ℕ) × InReach r i j × (key ≡ K i j))

pub record LeastKey (K : ℕ → ℕ → ℕ) (r : Region) (key : ℕ) : Type 0 where
  pub some : (i : ℕ) × (j : ℕ) × InReach r i j × (key ≡ K i j)
  pub least : (i j : ℕ) → InReach r i j → key ≤ K i j
