-- `copy_sum`: after g turns the sum is that of the first 4 × g rows, the next row is at place 4 × g × 64 on from the blocks' first, and beyond half way
-- the first half does not pass the ceiling.
use Prim.Native.Nat.{◌+◌, ◌*◌, ◌≤◌, ◌<◌}
use mathlib.Core.Path.{◌≡◌}
use Rattle.window_copy.specs.Copy.{copy_rows}
use Rattle.window_copy.proofs.copy_sum.Given as goal

abbrev pub invariant-loop-g : goal.invariant-loop-g
invariant-loop-g l =
    (l.p ≡ 4 * l.g * 64) × (l.q ≡ l.at + 4 * l.g * 64) × (l.sum ≤ l.g * 4161600) × (l.sum ≡ copy_rows l.window l.block l.at (4 * l.g)) × (2 < l.g → copy_rows l.window l.block l.at 8 ≤ l.ceiling)
