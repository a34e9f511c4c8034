-- `leasts`: after i turns the least of each of the first i rows is stored.
use Prim.Native.Nat.{ℕ, ◌*◌, ◌<◌}
use mathlib.Core.Path.{◌≡◌}
use lib.ListN.{length, get_or}
use Rattle.full.specs.Rows.{least_from}
use Rattle.pruned_sift.proofs.leasts.Given as goal

abbrev pub invariant-loop-i : goal.invariant-loop-i
invariant-loop-i l =
    (length l.least ≡ 33) × ((k : ℕ) → k < l.i → get_or l.least k 0 ≡ least_from 4294967295 (λ j. get_or l.numbers j 0) (l.pitch * k) l.r.columns)
