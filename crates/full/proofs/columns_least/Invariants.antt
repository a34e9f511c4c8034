-- `columns_least`: before column j the least is that of the columns passed (`Passed`).
use mathlib.Core.Path.{◌≡◌}
use lib.ListN.{length}
use Rattle.full.specs.Columns.{key_by_column}
use Rattle.full.proofs.Reached.{Passed}
use Rattle.full.proofs.columns_least.Given as goal

abbrev pub invariant-loop-j : goal.invariant-loop-j
invariant-loop-j l =
    (length l.strip ≡ 320) × Passed (key_by_column l.window l.block) l.r l.j l.best
