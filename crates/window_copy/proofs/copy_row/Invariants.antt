-- `copy_row`: after j turns the first j pels are copied.
use Prim.Native.Nat.{◌+◌}
use mathlib.Core.Path.{◌≡◌}
use lib.ListN.{length, get_or}
use Rattle.base.specs.Lists.{fill_to}
use Rattle.window_copy.proofs.copy_row.Given as goal

abbrev pub invariant-loop-j : goal.invariant-loop-j
invariant-loop-j g l =
    (l.copy ≡ fill_to l.initial.copy l.at (λ i. g.T.Pel.of_pel (get_or l.frame (l.from + i) 0)) l.j) × (length l.copy ≡ length l.initial.copy)
