-- `rows_at`: the sum so far is that of the first p rows of squares.
use Prim.Native.Nat.{◌+◌, ◌*◌, ◌≤◌}
use mathlib.Core.Path.{◌≡◌}
use Rattle.base.specs.Sum.{sum_to}
use Rattle.pruned_lookup.specs.Lookup.{box_run}
use Rattle.pruned_lookup.proofs.rows_at.Given as goal

abbrev pub invariant-loop-p : goal.invariant-loop-p
invariant-loop-p l =
    (l.sum ≤ 137434759200 * l.p) × (l.sum ≡ sum_to (λ i. box_run l.measure l.boxes l.m (l.a + l.pitch * (i * l.m)) (l.o + l.n * (i * l.m)) l.k) l.p)
