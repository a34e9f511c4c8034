-- `nearest`: after i turns the least of the key that it begins with and those of the first i rows.
use mathlib.Core.Path.{◌≡◌}
use native.Mathlib.Omega.{arith}
use lib.ListN.{get_or}
use Rattle.full.proofs.Keys.{least_least}
use Rattle.pruned_sift.proofs.Rows.{passed_first, passed_more, passed_last, lowered_keys, lowered_over, leasts_bound, bottom_some}
use Rattle.pruned_sift.proofs.nearest.Goals as goal
use Rattle.pruned_sift.proofs.nearest.Goals.{then-least-i, else-least-i}

pub loop-i-init : goal.loop-i-init
loop-i-init c = passed_first _ _ _

pub loop-i-preserved : goal.loop-i-preserved
loop-i-preserved c =
    let l = c.loop-i in
    let a = c.args in
    let low = lowered_over a.numbers.now a.pitch a.r a.least.now l.i l.best _ (omega arith) (leasts_bound a.numbers.now a.pitch a.r a.least.now c.requires.1) l.invariant.low in
    let least = least_least 4294967295 (λ k. get_or a.least.now k 0) 0 a.r.rows l.i (omega arith) (omega arith) in
    elim c.if-least-i.branch [
      | then-least-i w ↦ rw w.best-is
          (passed_more _ _ _ l.i l.best _ (lowered_keys a.numbers.now a.pitch a.r l.i l.best _ (omega arith) w.row_keys-best.ensures) l.invariant)
      | else-least-i w ↦ rw w.best-is
          (passed_more _ _ _ l.i l.best _ (low (omega (arith, least, c.least_of_row-bottom.ensures, w.if-least-i.false))) l.invariant)
    ]

pub returns : goal.returns
returns c =
    let a = c.args in
    let e : c.loop-i.i ≡ a.r.rows = omega arith in
    let low = bottom_some a.numbers.now a.pitch a.r a.least.now c.requires.0 (λ k. omega (arith, c.type_inv.numbers k)) c.requires.1 _ c.least_of_row-bottom.ensures in
    passed_last _ _ _ _ low.0 low.1 low.2 low.3 (rw e at c.loop-i.invariant)
