-- `row_keys`: after j columns the least is that of their keys.
use Prim.Native.Nat.{◌+◌, ◌-◌, ◌<◌}
use mathlib.Core.Path.{◌≡◌, refl, ◌∙◌}
use native.Mathlib.Omega.{arith}
use lib.ListN.{get_or}
use Rattle.reach.specs.Keys.{key_of}
use Rattle.full.proofs.Keys.{least_first, least_next}
use Rattle.pruned_sift.proofs.Rows.{code_at, code_under}
use Rattle.pruned_sift.proofs.row_keys.Goals as goal
use Rattle.pruned_sift.proofs.row_keys.Goals.{At-loop-j}

code_low : (l : At-loop-j) → l.args.left + l.loop-j.j < 33 → let a = l.args in
    l.code_of-down.result + get_or a.codes.now (a.left + l.loop-j.j) 0 < 262144
code_low l h =
    let a = l.args in
    code_under a.codes.now _ a.i (a.left + l.loop-j.j) l.requires.3 l.code_of-down.ensures h l.requires.1

pub loop-j-init : goal.loop-j-init
loop-j-init c = least_first _ _ _

pub overflow_add-code-in-loop-j : goal.overflow_add-code-in-loop-j
overflow_add-code-in-loop-j c = omega (arith, code_low (goal.at.overflow_add-code-in-loop-j c).At-loop-j (omega arith))

pub overflow_add-numbers : goal.overflow_add-numbers
overflow_add-numbers c =
    omega (arith, c.type_inv.numbers (c.args.from + c.loop-j.j), code_low (goal.at.overflow_add-numbers c).At-loop-j (omega arith))

pub loop-j-preserved : goal.loop-j-preserved
unfolding key_of
loop-j-preserved c =
    let l = c.loop-j in
    let a = c.args in
    let here : a.left + l.j - a.left ≡ l.j = omega arith in
    least_next _ _ _ l.j (a.left + l.j) l.least _ l.invariant refl
    (c.min-least.ensures ∙ rw (here, code_at a.codes.now _ a.i (a.left + l.j) c.requires.3 c.code_of-down.ensures (omega arith)))
