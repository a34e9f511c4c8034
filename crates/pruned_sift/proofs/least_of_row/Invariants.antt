-- `least_of_row`: after j turns the least of the first j numbers.
use mathlib.Core.Path.{◌≡◌}
use lib.ListN.{get_or}
use Rattle.full.specs.Rows.{least_from}
use Rattle.pruned_sift.proofs.least_of_row.Given as goal

abbrev pub invariant-loop-j : goal.invariant-loop-j
invariant-loop-j l = l.least ≡ least_from 4294967295 (λ k. get_or l.numbers k 0) l.from l.j
