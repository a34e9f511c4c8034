-- `differs`: at column j, after so many pairs of rows, the place is j in the next row; least and most are the smallest and the largest of the column's
-- pels before, low and high those of the columns before (`Seen`).
use Prim.Native.Nat.{◌+◌, ◌*◌}
use mathlib.Core.Path.{◌≡◌}
use native.Mathlib.Omega.{arith}
use lib.ListN.{length}
use Rattle.base.specs.Index.{row_next}
use Rattle.voter.proofs.Walk.{first_block, pair_inside, seen_first, seen_more, seen_two, seen_last}
use Rattle.voter.proofs.differs.Goals as goal

pub loop-j-init : goal.loop-j-init
loop-j-init g c = seen_first _ _

pub loop-pair-init : goal.loop-pair-init
loop-pair-init g c = (omega arith, seen_first _ _)

pub bounds-newer-p : goal.bounds-newer-p
bounds-newer-p g c =
    omega (arith, c.loop-pair.invariant.0, pair_inside g.row.N c.args.width (length c.args.newer.now) c.loop-pair._pair c.requires.0 c.loop-pair-test.true)

pub bounds-newer-p-in-loop-pair : goal.bounds-newer-p-in-loop-pair
bounds-newer-p-in-loop-pair g c =
    omega (arith, c.loop-pair.invariant.0, pair_inside g.row.N c.args.width (length c.args.newer.now) c.loop-pair._pair c.requires.0 c.loop-pair-test.true)

pub loop-pair-preserved : goal.loop-pair-preserved
loop-pair-preserved g c =
    let l = c.loop-pair in
    let a = c.args in
    let pels = a.newer.now in
    let i = 2 * l._pair in
    let down = row_next i a.width in
    let upper = first_block pels a.width i c.loop-j.j l.p l.invariant.0 in
    let lower = first_block pels a.width (i + 1) c.loop-j.j (l.p + a.width) (omega (arith, down, l.invariant.0)) in
    let seen = seen_two _ i _ _ _ _ l.invariant.1 upper lower
    (omega (arith, c.type_inv.newer l.p))
    (omega (arith, c.type_inv.newer (l.p + a.width))) in
    let next : i + 2 ≡ 2 * (l._pair + 1) = omega arith in (
      rw (← next) (omega (arith, down, row_next (i + 1) a.width, l.invariant.0)),
      rw (← next, c.min-least.ensures, c.min.ensures, c.max-most.ensures, c.max.ensures) seen,
    )

pub loop-j-preserved : goal.loop-j-preserved
loop-j-preserved g c =
    let l = c.loop-pair in
    let e : 2 * l._pair ≡ g.row.N = omega arith in
    let column = rw e at l.invariant.1 in
    rw (c.min-low.ensures, c.max-high.ensures)
    (seen_more _ _ _ _ _ _ _ c.loop-j.invariant column.low_is column.high_is column.high_small)

pub returns : goal.returns
returns g c =
    let l = c.loop-j in
    let e : l.j ≡ g.row.N = omega arith in
    seen_last _ _ _ _ (rw e at l.invariant)
