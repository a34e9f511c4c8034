-- `fill_sums`: after r turns the first r + 1 rows of the table are made (`SumsGoing`).
use Rattle.pruned_sums.proofs.Rows.{SumsGoing}
use Rattle.pruned_sums.proofs.fill_sums.Given as goal

abbrev pub invariant-loop-r : goal.invariant-loop-r
invariant-loop-r l =
    SumsGoing l.frame l.width (record { top = l.top; left = l.left; rows = l.rows; columns = l.columns }) l.initial.table l.table l._r l.from l.here
