-- `nearest`: the least of the keys passed is carried along.
use mathlib.Core.Path.{◌≡◌}
use lib.ListN.{take}
use Rattle.base.specs.Least.{least_of}
use Rattle.pruned_list.proofs.nearest.Given as goal

abbrev pub invariant-loop-i : goal.invariant-loop-i
invariant-loop-i l = l.least ≡ least_of (λ k. k) (take l.i l.keys)
