-- `reading_of`: the walk along the table keeps the first greatest count; after its last vector that is the array's reading.
use mathlib.Core.Path.{◌≡◌}
use native.Mathlib.Omega.{arith}
use borrow.Author.Rules.{rules}
use mir.Facts.{to_z-of_z}
use Rattle.order.proofs.Order.{inside}
use Rattle.order.specs.Vectors.{vector_count}
use Rattle.reading.proofs.Tally.{walked_first, walked_yes, walked_no, walked_last}
use mir.Syntax.{w32}
use Rattle.reading.proofs.reading_of.Goals as goal
use Rattle.reading.proofs.reading_of.Goals.{then-most-x, else-most-x}

pub code_of-c-requires : goal.code_of-c-requires
code_of-c-requires c = rw c.vector_at-best.ensures (inside 0 (omega arith))

pub loop-k-init : goal.loop-k-init
loop-k-init c = walked_first _ _ _ c.vector_at-best.ensures (rw c.code_of-c.ensures.0)

pub code_of-e-requires : goal.code_of-e-requires
code_of-e-requires c = rw c.vector_at-v.ensures (inside _ c.loop-k-test.true)

pub loop-k-preserved : goal.loop-k-preserved
loop-k-preserved c =
    let l = c.loop-k in
    let t = c.loop-k-test.true in
    let v = c.vector_at-v.ensures in
    elim c.if-most-x.branch [
      | then-most-x w ↦ rw (w.best-is, w.most-is) (walked_yes l.invariant t _ _ v (rw c.code_of-e.ensures.0) w.if-most-x.true)
      | else-most-x w ↦ rw (w.best-is, w.most-is) (walked_no l.invariant t _ _ v (rw c.code_of-e.ensures.0) w.if-most-x.false)
    ]

pub returns : goal.returns
returns c =
    let l = c.loop-k in
    let e : l.k ≡ vector_count = omega arith in
    rw (to_z-of_z {w = w32} {z = l.best.dy} (search rules), to_z-of_z {w = w32} {z = l.best.dx} (search rules))
    (walked_last (rw e at l.invariant))
