-- `least_of_row`: after j turns the least of the first j numbers.
use native.Mathlib.Omega.{arith}
use lib.ListN.{get_or}
use Rattle.full.proofs.Keys.{least_first, least_more}
use Rattle.pruned_sift.proofs.least_of_row.Goals as goal

pub loop-j-init : goal.loop-j-init
loop-j-init c = least_first _ _ _

pub loop-j-preserved : goal.loop-j-preserved
loop-j-preserved c =
    let l = c.loop-j in
    let a = c.args in
    omega (arith, least_more 4294967295 (λ k. get_or a.numbers.now k 0) a.from l.j, l.invariant, c.min-least.ensures)
