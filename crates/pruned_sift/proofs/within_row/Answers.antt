-- `within_row`: none where the least exceeds the limit; else after j turns the number of those within the limit among the first j.
use Prim.Native.Nat.{◌+◌}
use mathlib.Core.Path.{sym, ap}
use native.Mathlib.Omega.{arith}
use borrow.Author.Tests.{le-leb, lt-leb}
use lib.Dec.{leb}
use lib.ListN.{get_or}
use Rattle.base.specs.Sum.{sum_to_none, sum_to_more, sum_to_zero}
use Rattle.base.specs.Tests.{one}
use Rattle.pruned_sift.proofs.within_row.Goals as goal
use Rattle.pruned_sift.proofs.within_row.Goals.{then-numbers-from, else-numbers-from}

pub returns-then-least-most : goal.returns-then-least-most
returns-then-least-most c =
    let a = c.args in
    sym (sum_to_zero _ a.columns (λ j h. ap one (lt-leb (get_or a.numbers.now (a.from + j) 0) a.most (omega (arith, c.requires.2 j h, c.if-least-most.true)))))

pub loop-j-init : goal.loop-j-init
loop-j-init c = (omega arith, sym (sum_to_none _))

pub overflow_add-n : goal.overflow_add-n
overflow_add-n c =
    let l = c.loop-j in
    elim c.if-numbers-from.branch [
      | then-numbers-from w ↦ omega (arith, w.n-is, l.invariant.0)
      | else-numbers-from w ↦ omega (arith, w.n-is, l.invariant.0)
    ]

pub loop-j-preserved : goal.loop-j-preserved
loop-j-preserved c =
    let l = c.loop-j in
    let a = c.args in
    let d = get_or a.numbers.now (a.from + l.j) 0 in
    let m = sum_to_more (λ k. one (leb (get_or a.numbers.now (a.from + k) 0) a.most)) l.j in
    elim c.if-numbers-from.branch [
      | then-numbers-from w ↦ (omega (arith, w.n-is, l.invariant.0), omega (arith, w.n-is, l.invariant.1, m, ap one (le-leb d a.most w.if-numbers-from.true)))
      | else-numbers-from w ↦ (omega (arith, w.n-is, l.invariant.0), omega (arith, w.n-is, l.invariant.1, m, ap one (lt-leb d a.most (omega (arith, w.if-numbers-from.false)))))
    ]
