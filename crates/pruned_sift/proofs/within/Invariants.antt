-- `within`: after i turns those within the limit in the first i rows are counted, together and row by row.
use Prim.Native.Nat.{ℕ, ◌*◌, ◌≤◌, ◌<◌}
use mathlib.Core.Path.{◌≡◌}
use lib.ListN.{length, get_or}
use Rattle.base.specs.Sum.{sum_to}
use Rattle.pruned_sift.specs.Laid.{row_spots, within}
use Rattle.pruned_sift.proofs.within.Given as goal

abbrev pub invariant-loop-i : goal.invariant-loop-i
invariant-loop-i l =
    (length l.counts ≡ 33) × (l.n ≤ 4294967295 * l.i) × (l.n ≡ sum_to (λ k. length (within l.numbers l.pitch l.r l.most (row_spots l.r k))) l.i)
    × ((k : ℕ) → k < l.i → get_or l.counts k 0 ≡ length (within l.numbers l.pitch l.r l.most (row_spots l.r k)))
