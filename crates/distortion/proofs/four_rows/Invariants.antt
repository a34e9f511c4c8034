-- `four_rows`: at row i and column j the places are i × across + j and i × width + j on from where the rows begin, and the sum is that of the pels
-- before.
use Prim.Native.Nat.{◌+◌, ◌*◌, ◌≤◌, ◌<◌}
use mathlib.Core.Path.{◌≡◌}
use Rattle.measures.specs.Measures.{measure_of}
use Rattle.distortion.proofs.Rows.{Summed}
use Rattle.distortion.proofs.four_rows.Given as goal

-- 02, request 2: at each pel the running place is row × width + column, from where the rows begin
abbrev pub invariant-loop-j : goal.invariant-loop-j
invariant-loop-j l =
    (l.p ≡ l.a + (l._i * l.across + l._j)) × (l.q ≡ l.b + (l._i * l.width + l._j)) × (l._i < 4) × (l._j ≤ l.n) × Summed (measure_of l.measure) l.older l.newer l.across l.width l.a l.b l.n l._i l._j l.sum

abbrev pub invariant-loop-i : goal.invariant-loop-i
invariant-loop-i l =
    (l.p ≡ l.a + l._i * l.across) × (l.q ≡ l.b + l._i * l.width) × (l._i ≤ 4) × Summed (measure_of l.measure) l.older l.newer l.across l.width l.a l.b l.n l._i 0 l.sum
