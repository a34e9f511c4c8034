-- `list_row`: after j turns the keys of the first j columns are stored.
use Prim.Native.Nat.{◌+◌}
use mathlib.Core.Path.{◌≡◌}
use lib.ListN.{length}
use Rattle.base.specs.Lists.{fill_to}
use Rattle.reach.specs.Keys.{order_code}
use Rattle.pruned_list.proofs.list_row.Given as goal

abbrev pub invariant-loop-j : goal.invariant-loop-j
invariant-loop-j l =
    (l.keys ≡ fill_to l.initial.keys l.at (λ i. order_code l.row (l.left + i)) l.j) × (length l.keys ≡ length l.initial.keys)
