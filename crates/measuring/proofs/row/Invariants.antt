-- `row`: after j pels the sum is that of the first j, each at most the measure's most.
use Prim.Native.Nat.{◌*◌, ◌≤◌}
use mathlib.Core.Path.{◌≡◌}
use Rattle.measures.specs.Measures.{measure_of}
use Rattle.distortion.specs.Blocks.{row_from}
use Rattle.measuring.proofs.row.Given as goal

abbrev pub invariant-loop-j : goal.invariant-loop-j
invariant-loop-j l =
    (l.j ≤ l.n) × (l.sum ≡ row_from (measure_of l.measure) l.older l.newer l.a l.b l.j) × (l.sum ≤ l.j * (measure_of l.measure).most)
