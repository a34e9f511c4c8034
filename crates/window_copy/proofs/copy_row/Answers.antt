-- `copy_row`: after j turns the first j pels are copied.
use mathlib.Core.Path.{refl}
use native.Mathlib.Omega.{arith}
use borrow.Author.Rules.{rules}
use lib.ListN.{length-set}
use Rattle.base.specs.Lists.{fill_none, fill_more}
use Rattle.window_copy.proofs.copy_row.Goals as goal

pub loop-j-init : goal.loop-j-init
loop-j-init g c = (fill_none _ _ _, refl)

pub loop-j-preserved : goal.loop-j-preserved
loop-j-preserved g c =
    let l = c.loop-j in
    (rw (l.invariant.0, c.of.ensures) (fill_more _ _ _ l.j (omega arith)), simp length-set (search rules))
