-- `grey_row`: after j turns none were counted where the first j pels have the grey, and no more than j.
use Prim.Native.Nat.{ℕ, ◌+◌}
use mathlib.Core.Bool.{Bool}
use native.Mathlib.Omega.{arith}
use borrow.Author.Tests.{eq-eqb, ne_eqb}
use lib.Dec.{eqb}
use lib.ListN.{get_or}
use Rattle.window_copy.proofs.Grey.{none_yes, none_no}
use Rattle.window_copy.proofs.grey_row.Goals as goal
use Rattle.window_copy.proofs.grey_row.Goals.{then-frame-from, else-frame-from}

pub loop-j-preserved : goal.loop-j-preserved
loop-j-preserved c =
    let l = c.loop-j in
    let a = c.args in
    let f : ℕ → Bool = λ k. eqb (get_or a.frame.now (a.from + k) 0) a.grey in
    elim c.if-frame-from.branch [
      | then-frame-from w ↦ (
        omega (arith, w.others-is, l.invariant.0),
        rw w.others-is (none_yes f l.others l.j l.invariant.1 (eq-eqb _ _ w.if-frame-from.true)),
      )
      | else-frame-from w ↦ (
        omega (arith, w.others-is, l.invariant.0),
        rw w.others-is (none_no f l.others l.j (ne_eqb _ _ w.if-frame-from.false)),
      )
    ]
