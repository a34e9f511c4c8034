-- `add_row`: after each run of 4 the squares so far are there.
use Rattle.std.proofs.Common.{nat_eq}
use Prim.Native.Nat.{◌+◌, ◌*◌}
use mathlib.Core.Path.{◌≡◌}
use mathlib.Core.Bool.{not}
use lib.ListN.{get_or}
use Rattle.base.specs.Lists.{fill_to}
use Rattle.boxes.specs.Runs.{carried}
use Rattle.pruned_wide.specs.Wide.{row_squares}
use Rattle.pruned_wide.proofs.add_row.Given as goal

abbrev pub invariant-loop-run : goal.invariant-loop-run
invariant-loop-run g l =
    l.numbers ≡ fill_to l.fn.numbers 0 (λ t. carried (not (nat_eq g.row.FRESH 0)) (get_or l.fn.numbers t 0) + row_squares l.boxes (l.at + t) l.own l.m (4 * l.run)) l.span
