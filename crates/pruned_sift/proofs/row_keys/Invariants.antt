-- `row_keys`: after j columns the least is that of their keys.
use Prim.Native.Nat.{◌+◌, ◌-◌}
use mathlib.Core.Path.{◌≡◌}
use lib.ListN.{get_or}
use Rattle.reach.specs.Keys.{key_of}
use Rattle.full.specs.Rows.{least_from}
use Rattle.pruned_sift.proofs.row_keys.Given as goal

abbrev pub invariant-loop-j : goal.invariant-loop-j
invariant-loop-j l =
    l.least ≡ least_from l.best (λ k. key_of (get_or l.numbers (l.from + (k - l.left)) 0) l.i k) l.left l.j
