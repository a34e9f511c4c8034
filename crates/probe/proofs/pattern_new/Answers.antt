-- `pattern_new`: the points left lead from the best by now to where all lead from the first.
use Prim.Native.Nat.{ℕ}
use lib.IntN.{ℤ, pos, ◌*ℤ◌}
use mathlib.Core.Path.{◌≡◌, ◌∙◌}
use mathlib.Core.List.{List, []}
use native.Mathlib.Omega.{arith}
use borrow.Author.Rules.{rules, sfits_of}
use lib.Dec.{lit≤}
use lib.ListN.{get_or}
use mir.Syntax.{w32}
use mir.Val.{to_z, of_z}
use mir.Facts.{to_z-of_z}
use Rattle.order.specs.declared.Vector.{Vector}
use Rattle.order.specs.Vectors.{Within}
use Rattle.probe.specs.BestSoFar.{offset}
use Rattle.probe.proofs.Probe.{within_more}
use Rattle.probe.proofs.Looks.{going_near, going_more, going_last}
use Rattle.probe.proofs.pattern_new.Goals as goal
use Rattle.probe.proofs.pattern_new.Goals.{After-scaled-across, After-scaled-down, In-loop-dy}

-- the two offsets are small, and reach probe_new as p times what the table has
abbrev entry : List (List ℤ) → ℕ → Vector
entry offsets i = offset (get_or offsets i [])

small : (c : In-loop-dy) → Within 16 (entry c.args.offsets.now c.loop-dy.dy-index)
small c = within_more (lit≤ tt) (going_near _ _ _ _ _ _ _ _ _ c.loop-dy.invariant (omega arith))

down : (c : After-scaled-down) →
    let a = c.args in
    to_z w32 (of_z w32 c.scaled-down.result) ≡ pos a.p *ℤ (entry a.offsets.now c.loop-dy.dy-index).dy
down c = to_z-of_z (sfits_of {w = w32} c.scaled-down.type_inv) ∙ (rw (to_z-of_z {w = w32} {z = (entry c.args.offsets.now c.loop-dy.dy-index).dy} (search rules)) at c.scaled-down.ensures)

across : (c : After-scaled-across) →
    let a = c.args in
    to_z w32 (of_z w32 c.scaled-across.result) ≡ pos a.p *ℤ (entry a.offsets.now c.loop-dy.dy-index).dx
across c = to_z-of_z (sfits_of {w = w32} c.scaled-across.type_inv) ∙ (rw (to_z-of_z {w = w32} {z = (entry c.args.offsets.now c.loop-dy.dy-index).dx} (search rules)) at c.scaled-across.ensures)

pub scaled-down-requires : goal.scaled-down-requires
scaled-down-requires c = (omega arith, rw (to_z-of_z {w = w32} {z = (entry c.args.offsets.now c.loop-dy.dy-index).dy} (search rules)) (small (goal.at.scaled-down-requires c).In-loop-dy).down)

pub scaled-across-requires : goal.scaled-across-requires
scaled-across-requires c = (omega arith, rw (to_z-of_z {w = w32} {z = (entry c.args.offsets.now c.loop-dy.dy-index).dx} (search rules)) (small (goal.at.scaled-across-requires c).In-loop-dy).across)

pub loop-dy-preserved : goal.loop-dy-preserved
loop-dy-preserved c =
    going_more _ _ _ _ _ _ _ _ _ c.loop-dy.invariant _ (omega arith)
    (rw (down (goal.at.loop-dy-preserved c).After-scaled-down, across (goal.at.loop-dy-preserved c).After-scaled-across) at c.probe_new-best.ensures)

pub returns : goal.returns
returns c =
    let g = c.loop-dy.invariant in
    record { is = going_last _ _ _ _ _ _ _ _ _ g (omega arith); few = omega arith }
