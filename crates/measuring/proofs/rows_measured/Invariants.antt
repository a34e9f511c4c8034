-- `rows_measured`: after so many rows the sum is theirs, none before has passed the ceiling, and the next row begins so many widths on.
use Prim.Native.Nat.{◌+◌, ◌*◌, ◌≤◌}
use mathlib.Core.Path.{◌≡◌}
use Rattle.measures.specs.Measures.{measure_of}
use Rattle.distortion.specs.Blocks.{rows_from}
use Rattle.measuring.specs.Measurement.{rows_measured}
use Rattle.measuring.proofs.rows_measured.Given as goal

abbrev pub invariant-loop-rows : goal.invariant-loop-rows
invariant-loop-rows l =
    (l.p ≡ l.a + l.rows * l.s.width) × (l.q ≡ l.b + l.rows * l.s.width) × (l.rows ≤ l.s.n) × (l.sum ≤ l.rows * (l.s.n * (measure_of l.s.measure).most))
    × (l.sum ≡ rows_from (measure_of l.s.measure) l.older l.newer l.s.width l.a l.b l.s.n l.rows)
    × (rows_measured l.ceiling (rows_from (measure_of l.s.measure) l.older l.newer l.s.width l.a l.b l.s.n) l.rows ≡ l.rows)
