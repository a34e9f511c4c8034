-- 01, "The four searches", search 2: "Cut a block into m × m squares; its distance at m is the sum over squares of the absolute difference of
-- pel sums." 02, request 1: by squares "the distance at m is then the sum over squares of the squared difference of pel sums". For every N and m, over
-- a measure of the differences.
--   square_sum    the pel sum of the m × m square in row p and column q of squares
--   distance_by   the distance at m of two N × N blocks by a measure
--   distortions  the newer block a against the older block b k of each candidate k: the distortions
--   distances    the same: the distances at each m
use Rattle.std.specs.Prelude.{ℕ, ◌+◌, ◌*◌, ◌/◌}
use Rattle.base.specs.Sum.{sum_over}
use Rattle.measures.specs.Measures.{Measure}
use Rattle.distortion.specs.Blocks.{Block, distortion_by}

unfoldable pub square_sum : Block → ℕ → ℕ → ℕ → ℕ
square_sum a m p q = sum_over m m (λ i j. a (p * m + i) (q * m + j))

unfoldable pub distance_by : Measure → ℕ → ℕ → Block → Block → ℕ
distance_by μ n m a b = sum_over (n / m) (n / m) (λ p q. μ.diff (square_sum a m p q) (square_sum b m p q))

abbrev pub distortions : Measure → ℕ → Block → (ℕ → Block) → ℕ → ℕ
distortions μ n a b k = distortion_by μ n a (b k)

abbrev pub distances : Measure → ℕ → Block → (ℕ → Block) → ℕ → ℕ → ℕ
distances μ n a b m k = distance_by μ n m a (b k)
