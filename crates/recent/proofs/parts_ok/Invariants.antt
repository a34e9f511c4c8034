-- `parts_ok`: the held parts are counted one by one, and the total is held against the sum.
use mathlib.Core.Path.{◌≡◌}
use Rattle.recent.specs.Counting.{counted_to}
use Rattle.recent.proofs.parts_ok.Given as goal

abbrev pub invariant-loop-k : goal.invariant-loop-k
invariant-loop-k l = l.total ≡ counted_to l.places l.k
