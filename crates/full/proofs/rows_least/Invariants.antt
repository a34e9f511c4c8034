-- `rows_least`: before turn t the least is that of the rows nearer than t to the middle (`Led`).
use Prim.Native.Nat.{◌<◌}
use Rattle.distortion.specs.Blocks.{size_by, measure_by}
use Rattle.full.specs.Rows.{key_in_copy}
use Rattle.full.proofs.Reached.{Led}
use Rattle.full.proofs.rows_least.Given as goal

abbrev pub invariant-loop-t : goal.invariant-loop-t
invariant-loop-t l =
    Led (key_in_copy (measure_by l.kernel) (size_by l.kernel) l.window l.block) l.r l.t l.best × (l.best < 1125899906842624)
