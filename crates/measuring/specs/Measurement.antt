-- 02, request 5: "Measuring gets a ceiling, any unsigned 32-bit number: up to it, the distortion comes back; beyond it, only 'over'. Both happen for no
-- other reason. With either comes the number of rows measured: the first at whose end the sum passes the ceiling, else N." To pass is to exceed.
--   rows_measured   the first of n rows at whose end the sum passes the ceiling, else n; `sum m` is the sum at the end of row m, rows counted from 1, and
--                  `sum 0`, before them all, is 0 and passes nothing
--   FirstPassing   the same as a relation, without a computation: `rows-first` of proofs/Passing.antt
--   with_rows       the rows that come with either
--   measurement    the answer for two N × N blocks by a measure
use Rattle.std.specs.Prelude.{ℕ, zero, suc, ◌≤◌, ◌<◌, cond, leb, Option, Some, None}
use Rattle.measures.specs.Measures.{Measure}
use Rattle.distortion.specs.Blocks.{Block, distortion_by, partial_by, capped}
use Rattle.measuring.specs.declared.Measurement.{Measurement}
use Rattle.measuring.specs.declared.Measurement.TheVariants.{Within, Over}

unfoldable pub rows_measured : ℕ → (ℕ → ℕ) → ℕ → ℕ
rows_measured ceiling sum zero = 0
rows_measured ceiling sum (suc n) =
    let r = rows_measured ceiling sum n in
    cond (leb (sum r) ceiling) (suc n) r

pub record FirstPassing (ceiling : ℕ) (sum : ℕ → ℕ) (n r : ℕ) : Type 0 where
  pub among : r ≤ n
  pub before : (m : ℕ) → m < r → sum m ≤ ceiling
  pub passes : r < n → ceiling < sum r

unfoldable pub with_rows : ℕ → Option ℕ → Measurement
with_rows rows (Some d) = Within d rows
with_rows rows None = Over rows

unfoldable pub measurement : Measure → ℕ → ℕ → Block → Block → Measurement
measurement μ ceiling n a b = with_rows (rows_measured ceiling (partial_by μ n a b) n) (capped ceiling (distortion_by μ n a b))
