-- `view_place`: where the chain is 0, the N pels end inside the frame, so the place is small.
use mathlib.Core.Path.{sym}
use native.Mathlib.Omega.{arith}
use borrow.Author.Tests.{ne_eqb}
use Rattle.frame.specs.Pictures.{pels_few}
use Rattle.refusals.specs.Numbers.{number_some}
use Rattle.view.specs.View.{view_place, Viewed, viewed}
use Rattle.view.proofs.view_place.Goals as goal
use Rattle.view.proofs.view_place.Goals.{In_default}

ok : (d : In_default) → let a = d.args in Viewed a.older a.newer a.s a.side a.row a.column
ok d = viewed _ _ _ _ _ _ (sym d.in_default.ensures)

pub returns-in-Err : goal.returns-in-Err
unfolding view_place
returns-in-Err c =
    rw (c.into.ensures, ← c.in-Err.ensures, ne_eqb _ 0 (number_some c.in-Err.refusal))

pub overflow_mul-result : goal.overflow_mul-result
overflow_mul-result c = omega (arith, ok (goal.at.overflow_mul-result c).In_default, pels_few _ (ok (goal.at.overflow_mul-result c).In_default).paired.fitting)

pub overflow_add-result : goal.overflow_add-result
overflow_add-result c = omega (arith, ok (goal.at.overflow_add-result c).In_default, pels_few _ (ok (goal.at.overflow_add-result c).In_default).paired.fitting)

pub returns : goal.returns
unfolding view_place
returns c = rw (← c.in_default.ensures)
