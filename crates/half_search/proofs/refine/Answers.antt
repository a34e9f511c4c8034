-- `refine`: the centre is the search's vector, and each turn of the loop tries one neighbour more.
use Prim.Native.Nat.{ℕ, ◌+◌, ◌*◌, ◌≤◌}
use mathlib.Core.Path.{◌≡◌, refl, sym, ap, ◌∙◌}
use mathlib.Core.List.{List}
use native.Mathlib.Omega.{arith}
use borrow.Author.Rules.{sfits_of}
use lib.IntN.{nat_abs}
use mir.Facts.{to_z-of_z}
use Rattle.signed.specs.Int.{up, dn}
use Rattle.signed.proofs.Machine.{through}
use Rattle.frame.specs.Pictures.{pair_of}
use Rattle.refusals.specs.Refusals.{block_size}
use Rattle.search.specs.SearchResult.{vector_in}
use Rattle.half_search.specs.Half.{neighbour_count, counts, costs}
use Rattle.half_search.specs.Steps.{Refining, try_at}
use Rattle.half_search.proofs.Best.{centre_distortion, centre_tried}
use Rattle.half_search.proofs.Leading.{leading_first, leading_next, leading_few, try_is, refined_is, past_of}
use mir.Syntax.{w32}
use Rattle.half_search.proofs.refine.Goals as goal
use Rattle.half_search.proofs.refine.Goals.{After-past-column}

refining : (c : After-past-column) → let a = c.args in Refining a.older.now a.newer.now a.s a.y a.x a.found
refining c = c.requires

down-near : (c : After-past-column) → nat_abs c.args.found.dy ≤ 16
down-near c = (refining c).own.chosen.window.down

across-near : (c : After-past-column) → nat_abs c.args.found.dx ≤ 16
across-near c = (refining c).own.chosen.window.across

row_is : (c : After-past-column) → let a = c.args in c.past-row.result + dn a.found.dy ≡ a.y + up a.found.dy
row_is c =
    let a = c.args in
    let e = rw (through a.found.dy (down-near c)) at c.past-row.ensures.0 in
    omega (arith, e, (past_of _ _ _ _ _ _ (refining c)).0.is)

column-is : (c : After-past-column) → let a = c.args in c.past-column.result + dn a.found.dx ≡ a.x + up a.found.dx
column-is c =
    let a = c.args in
    let e = rw (through a.found.dx (across-near c)) at c.past-column.ensures.0 in
    omega (arith, e, (past_of _ _ _ _ _ _ (refining c)).1.is)

small : (c : After-past-column) → c.args.s.n ≤ 32
small c = (block_size _ (refining c).placed.paired.allowed).most

pub half_block-requires : goal.half_block-requires
half_block-requires c =
    let p = (refining (goal.at.half_block-requires c).After-past-column).placed in (
      record {
        whole = p.paired.newer_whole;
        fitting = p.paired.fitting;
        small = small (goal.at.half_block-requires c).After-past-column;
        down = omega (arith, p.down);
        across = omega (arith, p.across);
      },
      refl,
    )

pub loop-k-init : goal.loop-k-init
loop-k-init c =
    let own = (refining (goal.at.loop-k-init c).After-past-column).own in
    let a = c.args in
    let p = pair_of a.older.now a.newer.now a.s in
    leading_first _ _ _ (centre_tried p 16 _ _ _ own.chosen) (own.reported ∙ sym (centre_distortion p _ _ _))

pub loop-k-preserved : goal.loop-k-preserved
loop-k-preserved c =
    let a = c.args in
    let l = c.loop-k in
    let p = pair_of a.older.now a.newer.now a.s in
    let v = vector_in a.found in
    let o = c.neighbour-o in
    let tried = c.try_at-best.ensures
    ∙ ap (λ (block : List ℕ). try_at a.older.now block a.s (2 * c.past-row.result + o.result.down) (2 * c.past-column.result + o.result.across) l.k l.best)
    c.half_block.ensures
    ∙ try_is a.older.now a.newer.now a.s a.y a.x v _ _ (row_is (goal.at.loop-k-preserved c).After-past-column) (column-is (goal.at.loop-k-preserved c).After-past-column) _ refl (small (goal.at.loop-k-preserved c).After-past-column) l.k o.result o.ensures.0 l.best in
    rw tried (leading_next (costs p a.y a.x v) (counts p a.y a.x v) l.k l.best l.invariant)

pub neighbour-o-requires-2 : goal.neighbour-o-requires-2
neighbour-o-requires-2 c = omega (arith, leading_few c.loop-k.invariant)

pub returns : goal.returns
returns c =
    let l = c.loop-k in
    let all : l.k ≡ neighbour_count = omega arith in
    refined_is _ _ _ _ l.best c.neighbour-o-2.result _ _ (rw all at l.invariant) c.neighbour-o-2.ensures.0
    (to_z-of_z (sfits_of {w = w32} c.half_part.type_inv) ∙ (rw (through c.args.found.dy (down-near (goal.at.returns c).After-past-column)) at c.half_part.ensures))
    (to_z-of_z (sfits_of {w = w32} c.half_part-2.type_inv) ∙ (rw (through c.args.found.dx (across-near (goal.at.returns c).After-past-column)) at c.half_part-2.ensures))
