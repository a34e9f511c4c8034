-- `add_run`: after t turns the first t places have theirs.
use Rattle.std.proofs.Common.{nat_eq}
use Prim.Native.Nat.{◌+◌}
use mathlib.Core.Path.{◌≡◌}
use mathlib.Core.Bool.{not}
use lib.ListN.{get_or}
use Rattle.base.specs.Lists.{fill_to}
use Rattle.boxes.specs.Runs.{carried}
use Rattle.pruned_wide.specs.Wide.{row_squares}
use Rattle.pruned_wide.proofs.add_run.Given as goal

abbrev pub invariant-loop-t : goal.invariant-loop-t
invariant-loop-t g l =
    l.numbers ≡ fill_to l.initial.numbers 0 (λ i. carried (not (nat_eq g.row.FRESH 0)) (get_or l.initial.numbers i 0) + row_squares l.boxes (l.at + i) l.own l.m g.row.COUNT) l.t
