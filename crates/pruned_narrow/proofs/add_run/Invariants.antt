-- `add_run`: after t turns the first t places have theirs.
use Prim.Native.Nat.{◌+◌}
use mathlib.Core.Path.{◌≡◌}
use lib.ListN.{get_or}
use Rattle.base.specs.Lists.{fill_to}
use Rattle.pruned_narrow.specs.Narrow.{row_more}
use Rattle.pruned_narrow.proofs.add_run.Given as goal

abbrev pub invariant-loop-t : goal.invariant-loop-t
invariant-loop-t g l =
    l.part ≡ fill_to l.initial.part 0 (λ i. get_or l.initial.part i 0 + row_more l.boxes (l.at + i) l.own l.m g.row.COUNT) l.t
