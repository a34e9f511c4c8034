-- `codes_of`: after i turns the first i codes are stored.
use mathlib.Core.Path.{◌≡◌, refl, ◌∙◌}
use mathlib.Core.List.{append-nil}
use native.Mathlib.Omega.{arith}
use lib.ListN.{length-set}
use Rattle.base.specs.Lists.{fill_none, fill_front, fill_zero}
use Rattle.reach.proofs.codes_of.Goals as goal

pub loop-i-init : goal.loop-i-init
loop-i-init c = (omega arith, refl, fill_none _ _ _)

pub code_of-requires : goal.code_of-requires
code_of-requires c = (c.requires, omega arith)

pub offset_bounds-codes-i : goal.offset_bounds-codes-i
offset_bounds-codes-i c = omega arith

pub bounds-codes-i : goal.bounds-codes-i
bounds-codes-i c = omega arith

pub loop-i-preserved : goal.loop-i-preserved
loop-i-preserved c =
    let l = c.loop-i in
    (omega arith, simp length-set (omega arith), rw (l.invariant.2, c.code_of.ensures) (fill_front _ _ l.i (omega (arith, l.invariant.1))))

pub returns : goal.returns
returns c =
    let l = c.loop-i in
    let e : l.i ≡ 33 = omega arith in
    l.invariant.2 ∙ (rw (e, fill_zero) (append-nil _))
