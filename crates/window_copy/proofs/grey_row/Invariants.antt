-- `grey_row`: after j turns none were counted where the first j pels have the grey, and no more than j.
use Prim.Native.Nat.{◌≤◌}
use mathlib.Core.Path.{◌≡◌}
use lib.Dec.{eqb}
use Rattle.window_copy.specs.Grey.{grey_row}
use Rattle.window_copy.proofs.grey_row.Given as goal

abbrev pub invariant-loop-j : goal.invariant-loop-j
invariant-loop-j l = (l.others ≤ l.j) × (eqb l.others 0 ≡ grey_row l.frame l.from l.j l.grey)
