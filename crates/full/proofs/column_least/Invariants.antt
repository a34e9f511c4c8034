-- `column_least`: after the rows before i of the upper half and as many of the lower one the least of each half is that of their keys.
use Prim.Native.Nat.{◌-◌}
use mathlib.Core.Path.{◌≡◌}
use Rattle.full.specs.Rows.{least_from}
use Rattle.full.specs.Columns.{key_in_strip}
use Rattle.full.proofs.column_least.Given as goal

abbrev pub invariant-loop-i : goal.invariant-loop-i
invariant-loop-i l =
    (l.least ≡ least_from l.best (key_in_strip l.strip l.block l.j) l.from (l.i - l.from))
    × (l.other ≡ least_from l.best (key_in_strip l.strip l.block l.j) l.middle (l.i - l.from))
