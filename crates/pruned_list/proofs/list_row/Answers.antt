-- `list_row`: after j turns the keys of the first j columns are stored.
use Prim.Native.Nat.{ℕ, ◌+◌, ◌<◌}
use mathlib.Core.Path.{◌≡◌, refl, ap, ap₂, ◌∙◌}
use mathlib.Core.List.{List}
use native.Mathlib.Omega.{arith}
use borrow.Author.Rules.{rules}
use lib.ListN.{get_or, set, length-set}
use Rattle.base.specs.Lists.{fill_none, fill_more, get_d_list_to}
use Rattle.reach.specs.Keys.{order_code, code_of}
use Rattle.reach.proofs.Keys.{code_parts, code_small}
use Rattle.pruned_list.proofs.list_row.Goals as goal
use Rattle.pruned_list.proofs.list_row.Goals.{At-loop-j}

-- what row and column add to a key is their place in the order
code_is : (l : At-loop-j) → l.args.left + l.loop-j.j < 33 → let a = l.args in
    l.code_of-down.result + get_or a.codes.now (a.left + l.loop-j.j) 0 ≡ order_code a.row (a.left + l.loop-j.j)
code_is l h =
    let a = l.args in
    let j = a.left + l.loop-j.j in
    let column = ap (λ (k : List ℕ). get_or k j 0) l.requires.2 ∙ get_d_list_to (code_of 1) 33 j 0 h in
    ap₂ ◌+◌ l.code_of-down.ensures column ∙ code_parts a.row j

code-low : (l : At-loop-j) → l.args.left + l.loop-j.j < 33 → let a = l.args in
    l.code_of-down.result + get_or a.codes.now (a.left + l.loop-j.j) 0 < 262144
code-low l h = rw (code_is l h) (code_small l.args.row (l.args.left + l.loop-j.j) l.requires.0 h)

pub loop-j-init : goal.loop-j-init
loop-j-init c = (fill_none _ _ _, refl)

pub overflow_add-keys-in-loop-j : goal.overflow_add-keys-in-loop-j
overflow_add-keys-in-loop-j c = omega (arith, code-low (goal.at.overflow_add-keys-in-loop-j c).At-loop-j (omega arith))

pub loop-j-preserved : goal.loop-j-preserved
loop-j-preserved c =
    let l = c.loop-j in
    let a = c.args in (
      ap₂ (λ (k : List ℕ) (v : ℕ). set k (a.at + l.j) v) l.invariant.0 (code_is (goal.at.loop-j-preserved c).At-loop-j (omega arith))
          ∙ fill_more a.keys.now a.at (λ i. order_code a.row (a.left + i)) l.j (omega arith),
      simp length-set (search rules),
    )
