-- `rows_at`: the sum so far is that of the first p rows of squares.
use Prim.Native.Nat.{◌≤◌}
use mathlib.Core.Path.{sym}
use native.Mathlib.Omega.{arith}
use borrow.Author.Rules.{rules}
use Rattle.base.specs.Sum.{sum_to_none, sum_to_more}
use Rattle.pruned_lookup.proofs.rows_at.Goals as goal
use Rattle.pruned_lookup.proofs.rows_at.Goals.{After-row_at-sum}

row_low : (c : After-row_at-sum) → c.row_at-sum.result ≤ 137434759200
row_low c = let e = c.row_at-sum.ensures.1 in omega (arith, e, c.requires.few)

pub loop-p-init : goal.loop-p-init
loop-p-init c = (search rules, sym (sum_to_none _))

pub loop-p-preserved : goal.loop-p-preserved
loop-p-preserved c =
    let l = c.loop-p in
    (omega (arith, row_low c), rw (sum_to_more _ l.p, l.invariant.1, c.row_at-sum.ensures.0))
