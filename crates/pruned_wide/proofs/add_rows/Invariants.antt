-- `add_rows`: after p turns the first p rows are there.
use mathlib.Core.Path.{◌≡◌}
use Rattle.pruned_wide.proofs.Blocks.{stored}
use Rattle.pruned_wide.proofs.add_rows.Given as goal

abbrev pub invariant-loop-p : goal.invariant-loop-p
invariant-loop-p l = l.numbers ≡ stored l.boxes l.l l.span l.fn.numbers l.p
