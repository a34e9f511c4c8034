-- `rows_least`: before turn t the least is that of the rows nearer than t to the middle (`Led`).
use mathlib.Core.Path.{◌≡◌}
use native.Mathlib.Omega.{arith}
use Rattle.full.proofs.Reached.{led_first, led_more, led_last}
use Rattle.full.proofs.rows_least.Goals as goal

pub loop-t-init : goal.loop-t-init
loop-t-init c =
    let e = c.row_in_reach-best.ensures in
    (led_first _ _ c.requires.4 _ _ c.requires.5 e, omega (arith, e.low, c.requires.6))

pub loop-t-preserved : goal.loop-t-preserved
loop-t-preserved c =
    let a = c.row_in_reach-above.ensures in
    let b = c.row_in_reach-best-in-loop-t.ensures in
    (led_more _ _ c.loop-t.t _ _ _ (omega arith) c.loop-t.invariant.0 a b, omega (arith, a.low, b.low, c.loop-t.invariant.1))

pub returns : goal.returns
returns c =
    let e : c.loop-t.t ≡ 17 = omega arith in
    led_last _ _ c.requires.4 _ (rw e at c.loop-t.invariant.0)
