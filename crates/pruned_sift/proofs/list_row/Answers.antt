-- `list_row`: after j turns the keys of those within the limit among the first j are stored.
use Prim.Native.Nat.{ℕ, ◌+◌, ◌*◌, ◌<◌}
use mathlib.Core.Path.{◌∙◌}
use native.Mathlib.Omega.{arith}
use lib.ListN.{length}
use Rattle.base.specs.Lists.{list_to}
use Rattle.pruned_rule.specs.Sift.{kept}
use Rattle.pruned_sift.specs.Laid.{number_on}
use Rattle.pruned_sift.proofs.Sifted.{number-on}
use Rattle.pruned_sift.proofs.Rows.{code_at, code_under}
use Rattle.pruned_sift.proofs.Added.{added_first, added_as, added_yes, added_no, row_yes, row_no, row_few, key_of_spot}
use Rattle.pruned_sift.proofs.list_row.Goals as goal
use Rattle.pruned_sift.proofs.list_row.Goals.{At-loop-j, then-numbers-from, else-numbers-from}

-- a column in reach, and room for its key
column : (l : At-loop-j) → l.loop-j.j < l.args.r.columns → l.args.r.left + l.loop-j.j < 33
column l h = omega (arith, l.requires.0.around.few_columns)

room : (l : At-loop-j) → l.loop-j.j < l.args.r.columns → l.loop-j.n < length l.args.keys.now
room l h =
    let a = l.args in
    omega (
      arith,
      l.loop-j.invariant.many,
      l.requires.3,
      row_few (number_on a.numbers.now a.pitch a.r) a.most (λ k. 64 * (a.r.top + a.i) + (a.r.left + k)) l.loop-j.j a.r.columns l.loop-j.auto.j-end,
    )

pub loop-j-init : goal.loop-j-init
unfolding list_to kept
loop-j-init c = added_first _ _

pub overflow_add-keys-in-loop-j : goal.overflow_add-keys-in-loop-j
overflow_add-keys-in-loop-j c =
    let h = column (goal.at.overflow_add-keys-in-loop-j c).At-loop-j (omega arith) in
    let a = c.args in
    let s : a.r.top + a.i < 33 = omega (arith, c.requires.0.around.few_rows, c.requires.1) in
    omega (arith, code_under a.codes.now _ (a.r.top + a.i) (a.r.left + c.loop-j.j) c.requires.2 c.code_of-down.ensures h s)

pub bounds-keys-n : goal.bounds-keys-n
bounds-keys-n c = omega (arith, c.loop-j.invariant.long, room (goal.at.bounds-keys-n c).At-loop-j (omega arith))

pub loop-j-preserved : goal.loop-j-preserved
loop-j-preserved c =
    let l = c.loop-j in
    let a = c.args in
    let v = number_on a.numbers.now a.pitch a.r in
    let g : ℕ → ℕ = λ k. 64 * (a.r.top + a.i) + (a.r.left + k) in
    let h : l.j < a.r.columns = omega arith in
    let d = number-on a.numbers.now a.pitch a.r a.i l.j c.requires.0.around.few_columns h in
    let near = column (goal.at.loop-j-preserved c).At-loop-j h in
    let k = code_at a.codes.now _ (a.r.top + a.i) (a.r.left + l.j) c.requires.2 c.code_of-down.ensures near ∙ key_of_spot (a.r.top + a.i) (a.r.left + l.j) (omega (arith, near)) in
    elim c.if-numbers-from.branch [
      | then-numbers-from w ↦ rw w.n-is (added_as (row_yes v a.most g l.j (omega (arith, d, w.if-numbers-from.true))) (added_yes l.invariant (g l.j) _ (room (goal.at.loop-j-preserved c).At-loop-j h) k))
      | else-numbers-from w ↦ rw w.n-is (added_as (row_no v a.most g l.j (omega (arith, d, w.if-numbers-from.false))) (added_no l.invariant _))
    ]

pub shape_of-keys : goal.shape_of-keys
shape_of-keys c = c.loop-j.invariant.long
