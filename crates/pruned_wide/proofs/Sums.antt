-- Squared differences and sums.
--   squared_is   a squared difference
--   next_le      the first terms of a sum, with the next, are at most the sum
use Prim.Native.Nat.{ℕ, ◌+◌, ◌*◌, ◌≤◌, ◌<◌}
use mathlib.Core.Path.{◌≡◌, ap}
use native.Mathlib.Omega.{arith}
use Rattle.base.specs.Sum.{sum_to, sum_to_more}
use Rattle.signed.specs.Values.{abs_diff}
use Rattle.measures.specs.Measures.{Measure, measure_squares}
use Rattle.boxes.proofs.Filled.{prefix_le}
use Rattle.pruned_wide.specs.Wide.{squared}

pub squared_is : (a b : ℕ) → squared a b ≡ abs_diff a b * abs_diff a b
squared_is a b = ap (λ (μ : Measure). μ.diff a b) (measure_squares 2 (λ e. omega arith))

pub next_le : (f : ℕ → ℕ) (q n : ℕ) → q < n → sum_to f q + f q ≤ sum_to f n
next_le f q n h = omega (arith, sum_to_more f q, prefix_le f (q + 1) n (omega arith))
