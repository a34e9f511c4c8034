-- `rows_by_four`: after g turns the sum is that of the first 4 × g rows as far as the ceiling goes, and the next row's place is 4 × g × width.
use Prim.Native.Nat.{◌*◌, ◌≤◌}
use mathlib.Core.Path.{◌≡◌}
use Rattle.measures.specs.Measures.{measure_of}
use Rattle.distortion.specs.Blocks.{rows_up_to}
use Rattle.distortion.proofs.rows_by_four.Given as goal

abbrev pub invariant-loop-g : goal.invariant-loop-g
invariant-loop-g l =
    (l._g ≤ l.groups) × (l.p ≡ 4 * l._g * l.width) × (l.sum ≤ l._g * (4 * (l.n * (measure_of l.measure).most)))
    × (l.sum ≡ rows_up_to (measure_of l.measure) l.ceiling l.older l.newer l.width 0 0 l.n l._g)
