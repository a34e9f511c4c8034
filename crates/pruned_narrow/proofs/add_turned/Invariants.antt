-- `add_turned`: after t turns the first t places have their distances.
use Prim.Native.Nat.{◌+◌}
use mathlib.Core.Path.{◌≡◌}
use lib.ListN.{get_or}
use Rattle.base.specs.Lists.{fill_to}
use Rattle.boxes.specs.Runs.{carried}
use Rattle.pruned_narrow.specs.Narrow.{turned}
use Rattle.pruned_narrow.proofs.add_turned.Given as goal

abbrev pub invariant-loop-t : goal.invariant-loop-t
invariant-loop-t l =
    l.numbers ≡ fill_to l.initial.numbers 0 (λ i. carried l.fresh (get_or l.initial.numbers i 0) + turned (get_or l.part i 0) (get_or l.boxes (l.whole + i) 0) l.v) l.t
