-- `value_row`: after j turns the first j values are stored.
use mathlib.Core.Path.{refl}
use native.Mathlib.Omega.{arith}
use borrow.Author.Rules.{rules}
use lib.ListN.{length-set}
use Rattle.base.specs.Lists.{fill_none, fill_more}
use Rattle.half_pel.proofs.value_row.Goals as goal

pub loop-j-init : goal.loop-j-init
loop-j-init c = (fill_none _ _ _, refl)

pub loop-j-preserved : goal.loop-j-preserved
loop-j-preserved c =
    let l = c.loop-j in
    (rw (l.invariant.0, c.value.ensures) (fill_more _ _ _ l.j (omega arith)), simp length-set (search rules))
