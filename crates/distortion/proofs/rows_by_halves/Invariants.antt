-- `rows_by_halves`: after g turns the total is that of the first g halves as far as the ceiling goes; p and q are the places of the next two.
use Prim.Native.Nat.{◌+◌, ◌*◌, ◌≤◌}
use mathlib.Core.Path.{◌≡◌}
use Rattle.measures.specs.Measures.{measure_of}
use Rattle.distortion.specs.Blocks.{half, halves_up_to}
use Rattle.distortion.proofs.rows_by_halves.Given as goal

abbrev pub invariant-loop-g : goal.invariant-loop-g
invariant-loop-g l =
    (l._g ≤ 16) × (l.p ≡ half l.width l._g) × (l.q ≡ half l.width (l._g + 1)) × (l.total ≤ l._g * (4 * (16 * (measure_of l.measure).most)))
    × (l.total ≡ halves_up_to (measure_of l.measure) l.ceiling l.older l.newer l.width 0 0 l._g)
