-- `view_refusal`: the pair's chain, and after it the side, the row and the columns.
use Prim.Native.Nat.{◌+◌}
use mathlib.Core.Path.{◌≡◌, sym}
use native.Mathlib.Omega.{arith}
use borrow.Author.Tests.{le-leb, lt-leb}
use lib.Dec.{leb}
use Rattle.refusals.specs.Refusals.{unless, Paired, paired, first_refusal_none}
use Rattle.refusals.specs.Numbers.{handed_first}
use Rattle.view.specs.View.{row_ok, view_refusal}
use Rattle.view.proofs.view_refusal.Goals as goal
use Rattle.view.proofs.view_refusal.Goals.{In_ok-pair_refusal}

-- past the pair's chain: its facts, and the rest of the chain
ok : (d : In_ok-pair_refusal) → let a = d.args in Paired a.older a.newer a.s
ok d = paired _ _ _ (sym d.in_ok-pair_refusal.ensures)

rest : (d : In_ok-pair_refusal) →
    let a = d.args in
    view_refusal a.older a.newer a.s a.side a.row a.column ≡ unless (leb a.side 1) 12 (unless (row_ok a.s a.row a.column) 7 0)
unfolding view_refusal
rest d = first_refusal_none _ _ (sym d.in_ok-pair_refusal.ensures)

pub returns-in_err-pair_refusal : goal.returns-in_err-pair_refusal
unfolding view_refusal
returns-in_err-pair_refusal c = handed_first _ _ _ c.from_residual.ensures.1 c.in_err-pair_refusal.ensures

pub overflow_sub-last : goal.overflow_sub-last
overflow_sub-last c = omega (arith, (ok (goal.at.overflow_sub-last c).In_ok-pair_refusal).fitting)

pub returns-then-side-gt1 : goal.returns-then-side-gt1
returns-then-side-gt1 c = rw (rest (goal.at.returns-then-side-gt1 c).In_ok-pair_refusal, lt-leb c.args.side 1 c.if-side-gt1.true)

pub returns-then-rows-row : goal.returns-then-rows-row
returns-then-rows-row c =
    let a = c.args in
    rw (rest (goal.at.returns-then-rows-row c).In_ok-pair_refusal, le-leb a.side 1 c.if-side-gt1.false, lt-leb (a.row + 1) a.s.height (omega arith))

pub returns-then-last-column : goal.returns-then-last-column
returns-then-last-column c =
    let a = c.args in
    rw (
      rest (goal.at.returns-then-last-column c).In_ok-pair_refusal,
      le-leb a.side 1 c.if-side-gt1.false,
      le-leb (a.row + 1) a.s.height (omega (arith, c.if-rows-row.false)),
      lt-leb (a.column + a.s.n) a.s.width (omega (arith, (ok (goal.at.returns-then-last-column c).In_ok-pair_refusal).fitting)),
    )

pub returns : goal.returns
returns c =
    let a = c.args in
    rw (
      rest (goal.at.returns c).In_ok-pair_refusal,
      le-leb a.side 1 c.if-side-gt1.false,
      le-leb (a.row + 1) a.s.height (omega (arith, c.if-rows-row.false)),
      le-leb (a.column + a.s.n) a.s.width (omega (arith, (ok (goal.at.returns c).In_ok-pair_refusal).fitting)),
    )
