-- `copy_strip`: after i rows and c pels of the next the strip is filled so far.
use mathlib.Core.Path.{◌≡◌}
use native.Mathlib.Omega.{arith}
use lib.ListN.{length-set}
use Rattle.base.specs.Lists.{fill_none, fill_more}
use Rattle.base.specs.Rows.{rowed_first, rowed_more}
use Rattle.full.proofs.copy_strip.Goals as goal

pub loop-i-init : goal.loop-i-init
loop-i-init c = rowed_first _ _ _

pub loop-c-init : goal.loop-c-init
loop-c-init c = (omega (arith, c.loop-i.invariant.long), fill_none _ _ _)

pub loop-c-preserved : goal.loop-c-preserved
loop-c-preserved c =
    let l = c.loop-c in
    (simp length-set (omega arith), rw l.invariant.1 (fill_more _ _ _ l.c (omega (arith, c.loop-i.invariant.long))))

pub loop-i-preserved : goal.loop-i-preserved
loop-i-preserved c =
    let l = c.loop-c in
    let o = c.loop-i in
    let e : l.c ≡ 8 = omega arith in
    rowed_more _ _ _ _ _ o.i _ o.invariant (omega arith) (omega (arith, o.invariant.long)) (rw e at l.invariant.1)
