-- The candidates of a block of N 8 column by column of window 16, over strips of the copied search window, by absolute differences.
--   strip_of       eight columns of a copied window from column j on, 40 rows without gaps
--   block_twice    the block copied twice, one copy behind the other, each without gaps
--   Twice         the second copy is as the first
--   key_in_strip    the key of row i of column j by the column's strip
--   key_by_column   the key of row i, column j by the copied window
use Rattle.std.specs.Prelude.{ℕ, ◌+◌, ◌*◌, ◌<◌, ◌≡◌, List, get_or}
use Rattle.base.specs.Rows.{in_rows}
use Rattle.measures.specs.Measures.{measure_of}
use Rattle.frame.specs.declared.SearchBlock.{SearchBlock}
use Rattle.distortion.specs.Blocks.{rows_from}
use Rattle.window_copy.specs.Copy.{copied_rows}
use Rattle.reach.specs.Keys.{key_of}

abbrev pub strip_of : List ℕ → ℕ → List ℕ
strip_of window j = in_rows (λ i c. get_or window (64 * i + j + c) 0) 40 8

abbrev pub block_twice : List ℕ → SearchBlock → List ℕ → List ℕ
block_twice newer b block =
    let width = b.setting.width in
    let here = b.y * width + b.x in
    copied_rows newer width here 8 (copied_rows newer width here 8 block 0 8 8) 64 8 8

abbrev pub Twice : List ℕ → Type 0
Twice block = (c : ℕ) → c < 64 → get_or block (64 + c) 0 ≡ get_or block c 0

abbrev pub key_in_strip : List ℕ → List ℕ → ℕ → ℕ → ℕ
key_in_strip strip block j i = key_of (rows_from (measure_of 1) strip block 8 0 (8 * i) 8 8) i j

abbrev pub key_by_column : List ℕ → List ℕ → ℕ → ℕ → ℕ
key_by_column window block i j = key_in_strip (strip_of window j) block j i
