-- `is_still`: the three tests in order.
use mathlib.Core.Path.{◌≡◌, ap, sym, subst, ◌∙◌}
use borrow.Author.Tests.{ne_eqb, eq-eqb}
use lib.Dec.{T, eqb, eqb→eq}
use lib.IntN.{ℤ, pos, negsuc}
use mir.Facts.{to_z-of_z}
use mir.Syntax.{w32}
use mir.Val.{SFits, to_z, of_z}
use Rattle.base.specs.Tests.{iff_test}
use Rattle.signed.specs.Int.{eq_z}
use Rattle.log_head.specs.Heads.{is_still}
use Rattle.log_head.proofs.is_still.Goals as goal

-- a number is 0 where its bits are
zero : (z : ℤ) → T (eq_z z (pos 0)) → z ≡ pos 0
zero (pos m) t = ap pos (eqb→eq m 0 t)
zero (negsuc m) t = absurd t

nought : {z : ℤ} → SFits w32 z → eq_z z (pos 0) ≡ eqb (of_z w32 z) 0
nought {z} f =
    iff_test (eq_z z (pos 0)) (eqb (of_z w32 z) 0) (λ t. subst (λ (x : ℤ). T (eqb (of_z w32 x) 0)) (sym (zero z t)) tt)
    (λ t. subst (λ (x : ℤ). T (eq_z x (pos 0))) (ap (to_z w32) (sym (eqb→eq (of_z w32 z) 0 t)) ∙ to_z-of_z f) tt)

pub returns-then-dy-ne0 : goal.returns-then-dy-ne0
unfolding is_still
returns-then-dy-ne0 c = rw (nought c.ranges.dy, ne_eqb _ 0 c.if-dy-ne0.true)

pub returns-then-dx-ne0 : goal.returns-then-dx-ne0
unfolding is_still
returns-then-dx-ne0 c = rw (nought c.ranges.dy, eq-eqb _ 0 c.if-dy-ne0.false, nought c.ranges.dx, ne_eqb _ 0 c.if-dx-ne0.true)

pub returns : goal.returns
unfolding is_still
returns c =
    rw (nought c.ranges.dy, eq-eqb _ 0 c.if-dy-ne0.false, nought c.ranges.dx, eq-eqb _ 0 c.if-dx-ne0.false, nought c.ranges.distortion)
