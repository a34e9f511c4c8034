-- `row_least`: after the columns before j the least is that of their keys.
use Prim.Native.Nat.{◌-◌}
use mathlib.Core.Path.{◌≡◌}
use Rattle.distortion.specs.Blocks.{size_by, measure_by}
use Rattle.full.specs.Rows.{key_in_copy, least_from}
use Rattle.full.proofs.row_least.Given as goal

abbrev pub invariant-loop-j : goal.invariant-loop-j
invariant-loop-j l =
    (l.least ≡ least_from l.best (key_in_copy (measure_by l.kernel) (size_by l.kernel) l.window l.block l.i) l.from (l.j - l.from))
