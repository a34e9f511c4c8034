-- `is_in`: a point that none of the offsets passed leads to is among those that the others lead to.
use mathlib.Core.Path.{◌≡◌, sym, ◌∙◌}
use mathlib.Core.List.{[]}
use native.Mathlib.Omega.{arith}
use borrow.Author.Rules.{rules}
use lib.IntN.{pos}
use lib.ListN.{get_or}
use mir.Facts.{to_z-of_z}
use Rattle.order.specs.Vectors.{same?}
use Rattle.probe.specs.Probe.{plus}
use Rattle.probe.specs.BestSoFar.{vector_of, offset}
use Rattle.probe.proofs.Looks.{missing_hit, missing_more, missing_last}
use mir.Syntax.{w32}
use Rattle.probe.proofs.is_in.Goals as goal
use Rattle.probe.proofs.is_in.Goals.{After-is_at}

-- whether the point is the one that this turn's offsets lead to
tested : (c : After-is_at) →
    let a = c.args in
    let i = c.loop-dy.dy-index in
    c.is_at.result ≡ same? (vector_of a.at) (plus (vector_of a.centre) (offset (get_or a.offsets.now i [])))
tested c =
    let o = get_or c.args.offsets.now c.loop-dy.dy-index [] in
    rw (to_z-of_z {w = w32} {z = get_or o 0 (pos 0)} (search rules), to_z-of_z {w = w32} {z = get_or o 1 (pos 0)} (search rules)) at c.is_at.ensures

pub returns-then-is_at : goal.returns-then-is_at
returns-then-is_at c = missing_hit _ _ _ _ _ _ c.loop-dy.invariant (omega arith) (sym (tested (goal.at.returns-then-is_at c).After-is_at) ∙ c.if-is_at.true)

pub loop-dy-preserved : goal.loop-dy-preserved
loop-dy-preserved c = missing_more _ _ _ _ _ _ c.loop-dy.invariant (omega arith) (sym (tested (goal.at.loop-dy-preserved c).After-is_at) ∙ c.if-is_at.false)

pub returns : goal.returns
returns c = missing_last _ _ _ _ _ _ c.loop-dy.invariant (omega arith)
