-- `run_at`: the sum so far is that of the first q squares' differences, each of two numbers of 16 bits.
use Prim.Native.Nat.{◌+◌, ◌*◌, ◌≤◌}
use mathlib.Core.Path.{◌≡◌, sym}
use native.Mathlib.Omega.{arith}
use borrow.Author.Rules.{rules}
use lib.ListN.{get_or}
use Rattle.base.specs.Sum.{sum_to_none, sum_to_more}
use Rattle.measures.specs.Measures.{measure_of, diff_most}
use Rattle.pruned_lookup.proofs.run_at.Goals as goal
use Rattle.pruned_lookup.proofs.run_at.Goals.{After-sum_difference-sum}

-- the difference of a turn
turn : (c : After-sum_difference-sum) → let a = c.args in let s = c.loop-q.q * a.m in
    (c.sum_difference-sum.result ≡ (measure_of a.measure).diff (get_or a.boxes.now (a.o + s) 0) (get_or a.boxes.now (a.a + s) 0))
    × (c.sum_difference-sum.result ≤ 4294836225)
turn c =
    let a = c.args in
    let s = c.loop-q.q * a.m in
    let e = c.sum_difference-sum.ensures in
    let h =
    diff_most a.measure (get_or a.boxes.now (a.o + s) 0) (get_or a.boxes.now (a.a + s) 0) 65535 (omega arith) (omega (arith, c.shared_slice_known-in-loop-q-2-1.given (a.o + s)))
    (omega (arith, c.shared_slice_known-in-loop-q-2-1.given (a.a + s))) in
    (e, omega (arith, e, h))

pub loop-q-init : goal.loop-q-init
loop-q-init c = (search rules, sym (sum_to_none _))

pub overflow_add-sum : goal.overflow_add-sum
overflow_add-sum c = omega (arith, (turn c).1, c.requires.0)

pub loop-q-preserved : goal.loop-q-preserved
loop-q-preserved c =
    let l = c.loop-q in
    let g = turn c in
    (omega (arith, g.1), rw (sum_to_more _ l.q, l.invariant.1, g.0))
