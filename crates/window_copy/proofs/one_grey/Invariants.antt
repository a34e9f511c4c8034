-- `one_grey`: after so many turns so many rows have the grey of the first pel, and the place is that of the next.
use Prim.Native.Nat.{◌+◌, ◌*◌}
use mathlib.Core.Path.{◌≡◌}
use mathlib.Core.Bool.{true}
use Rattle.base.specs.Tests.{all_below}
use Rattle.window_copy.specs.Grey.{row_is}
use Rattle.window_copy.proofs.one_grey.Given as goal

abbrev pub invariant-loop-row : goal.invariant-loop-row
invariant-loop-row l = (l.at ≡ l.from + l._row * l.width) × (all_below (row_is l.frame l.width l.from l.columns) l._row ≡ true)
