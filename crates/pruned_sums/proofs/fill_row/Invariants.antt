-- `fill_row`: after c turns c entries are written (`RowGoing`); the last entry is written behind the loop.
use Rattle.pruned_sums.proofs.Row.{RowGoing}
use Rattle.pruned_sums.proofs.fill_row.Given as goal

abbrev pub invariant-loop-c : goal.invariant-loop-c
invariant-loop-c l =
    RowGoing l.frame l.from l.initial.table l.above l.here l.columns l.table l.run l.c
