-- `run_at`: after q turns the first q squares are summed.
use Prim.Native.Nat.{◌+◌, ◌*◌}
use mathlib.Core.Path.{sym}
use native.Mathlib.Omega.{arith}
use lib.ListN.{get_or}
use Rattle.base.specs.Sum.{sum_to_none, sum_to_more}
use Rattle.pruned_wide.specs.Wide.{squared}
use Rattle.pruned_wide.proofs.Sums.{next_le}
use Rattle.pruned_wide.proofs.run_at.Goals as goal

pub loop-q-init : goal.loop-q-init
loop-q-init g c = sym (sum_to_none _)

pub overflow_add-sum : goal.overflow_add-sum
overflow_add-sum g c =
    let a = c.args in
    omega (arith, c.loop-q.invariant, c.square-sum.ensures, c.requires.1, next_le (λ q. squared (get_or a.own.now q 0) (get_or a.boxes.now (a.at + a.m * q) 0)) c.loop-q.q g.row.COUNT c.loop-q-test.true)

pub loop-q-preserved : goal.loop-q-preserved
loop-q-preserved g c = rw (c.square-sum.ensures, c.loop-q.invariant) (sym (sum_to_more _ c.loop-q.q))
