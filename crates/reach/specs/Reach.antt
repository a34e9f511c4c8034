-- 01, "Pictures, blocks, vectors": a vector "is a candidate for window w if both parts lie in -w..w and the older block is wholly inside its
-- frame." So the candidates are some rows and some columns of window 16, whose row i, column j has the vector (i - 16, j - 16): grid_vector.
--   Standing   a block wholly inside a frame, with a window of at most 16
--   reach      the rows and columns of its candidates
--   InReach    row i, column j is one of them
use Rattle.std.specs.Prelude.{ℕ, ◌+◌, ◌-◌, ◌≤◌, ◌<◌, min}
use Rattle.frame.specs.declared.SearchBlock.{SearchBlock}
use Rattle.frame.specs.declared.Region.{Region}

pub record Standing (b : SearchBlock) : Type 0 where
  pub down : b.y + b.setting.n ≤ b.setting.height
  pub across : b.x + b.setting.n ≤ b.setting.width
  pub high : b.setting.height ≤ 1024
  pub wide : b.setting.width ≤ 1024
  pub window : b.w ≤ 16

-- as far as the window goes, or the frame
unfoldable pub reach : SearchBlock → Region
reach b =
    let s = b.setting in
    record {
      top = 16 - min b.y b.w;
      left = 16 - min b.x b.w;
      rows = min b.y b.w + min b.w (s.height - s.n - b.y) + 1;
      columns = min b.x b.w + min b.w (s.width - s.n - b.x) + 1;
    }

pub record InReach (r : Region) (i j : ℕ) : Type 0 where
  pub top : r.top ≤ i
  pub bottom : i < r.top + r.rows
  pub left : r.left ≤ j
  pub right : j < r.left + r.columns
