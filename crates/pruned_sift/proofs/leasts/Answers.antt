-- `leasts`: after i turns the least of each of the first i rows is stored.
use Prim.Native.Nat.{◌*◌, ◌<◌}
use native.Mathlib.Omega.{arith}
use lib.ListN.{get_or, length-set}
use Rattle.full.specs.Rows.{least_from}
use Rattle.pruned_sift.proofs.Rows.{stored_more}
use Rattle.pruned_sift.proofs.leasts.Goals as goal

pub loop-i-preserved : goal.loop-i-preserved
loop-i-preserved c =
    let l = c.loop-i in
    let a = c.args in
    let small : l.i < 33 = omega (arith, c.requires.around.few_rows) in (
      simp length-set l.invariant.0,
      stored_more (λ k. least_from 4294967295 (λ j. get_or a.numbers.now j 0) (a.pitch * k) a.r.columns) l.least l.i _ (omega (arith, l.invariant.0)) l.invariant.1 c.least_of_row.ensures,
    )
