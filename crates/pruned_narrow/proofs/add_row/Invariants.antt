-- `add_row`: after each run of 4 the squares so far are there.
use Prim.Native.Nat.{◌+◌, ◌*◌}
use mathlib.Core.Path.{◌≡◌}
use lib.ListN.{get_or}
use Rattle.base.specs.Lists.{fill_to}
use Rattle.pruned_narrow.specs.Narrow.{row_more}
use Rattle.pruned_narrow.proofs.add_row.Given as goal

abbrev pub invariant-loop-run : goal.invariant-loop-run
invariant-loop-run l =
    l.part ≡ fill_to l.initial.part 0 (λ i. get_or l.initial.part i 0 + row_more l.boxes (l.at + i) l.own l.m (4 * l.run)) l.size
