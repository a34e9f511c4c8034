-- 01, "Field, reading, track": "place r × (width + 1) + c holds the sum of older pels in rows before r and columns before c, r to height, c to
-- width." Of any part of a frame, its rows and columns counted from its own corner; that of the whole frame is the table that a field fills.
--   area     the sum of the pels in rows before r and columns before c
--   sums_to   the first n rows of the table
--   summed   the whole table
use Rattle.std.specs.Prelude.{ℕ, ◌+◌, ◌*◌, ◌≤◌, ◌<◌, ◌≡◌, List, ◌++◌, length, get_or}
use Rattle.std.proofs.Common.{arith}
use Rattle.base.specs.Sum.{sum_over}
use Rattle.base.specs.Lists.{list_to, concat_to, length_list_to, length_concat_to}
use Rattle.base.specs.Rows.{in_rows_at}
use Rattle.distortion.specs.Blocks.{Block}

abbrev pub area : Block → ℕ → ℕ → ℕ
area g r c = sum_over r c g

-- row r of the table
abbrev pub sums_row : Block → ℕ → ℕ → List ℕ
sums_row g columns r = list_to (λ c. area g r c) (columns + 1)

abbrev pub sums_to : Block → ℕ → ℕ → List ℕ
sums_to g columns n = concat_to (λ r. sums_row g columns r) n

unfoldable pub summed : Block → ℕ → ℕ → List ℕ
summed g rows columns = sums_to g columns (rows + 1)

module _ (g : Block) (columns : ℕ) where
  pub length_sums : (n : ℕ) → length (sums_to g columns n) ≡ n * (columns + 1)
  length_sums n = length_concat_to _ (columns + 1) (λ r. length_list_to _ (columns + 1)) n

  pub sums_at : (n r c : ℕ) (d : List ℕ) → r < n → c ≤ columns → get_or (sums_to g columns n ++ d) (r * (columns + 1) + c) 0 ≡ area g r c
  sums_at n r c d h l = in_rows_at (area g) (columns + 1) n r c d h (omega arith)
