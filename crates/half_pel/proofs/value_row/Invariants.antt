-- `value_row`: after j turns the first j values are stored.
use Prim.Native.Nat.{◌+◌}
use mathlib.Core.Path.{◌≡◌}
use lib.ListN.{length}
use Rattle.base.specs.Lists.{fill_to}
use Rattle.half_pel.specs.HalfPel.{value_from}
use Rattle.half_pel.proofs.value_row.Given as goal

abbrev pub invariant-loop-j : goal.invariant-loop-j
invariant-loop-j l =
    (l.half ≡ fill_to l.initial.half l.at (λ i. value_from l.frame l.width l.down l.across (l.from + i)) l.j) × (length l.half ≡ length l.initial.half)
