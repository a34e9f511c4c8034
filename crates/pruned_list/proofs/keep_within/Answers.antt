-- `keep_within`: of the keys passed those within the limit stand in front.
use native.Mathlib.Omega.{arith}
use Rattle.pruned_list.proofs.Turns.{sifting_first, sifting_yes, sifting_no}
use Rattle.pruned_list.proofs.keep_within.Goals as goal
use Rattle.pruned_list.proofs.keep_within.Goals.{then-key-limit, else-key-limit}

pub loop-from-init : goal.loop-from-init
loop-from-init c = sifting_first _ _ _

pub loop-from-preserved : goal.loop-from-preserved
loop-from-preserved c =
    let l = c.loop-from in
    let t = c.loop-from-test.true in
    elim c.if-key-limit.branch [
      | then-key-limit w ↦ rw w.kept-is (sifting_yes l.invariant t (omega arith) (omega (arith, w.if-key-limit.true)))
      | else-key-limit w ↦ rw w.kept-is (sifting_no l.invariant t (omega arith) (omega (arith, w.if-key-limit.false)))
    ]
