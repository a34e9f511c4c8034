-- `one_grey`: after so many turns so many rows have the grey of the first pel, and the place is that of the next.
use Prim.Native.Nat.{◌+◌, ◌≤◌, ◌<◌}
use mathlib.Core.Path.{◌≡◌, refl, sym}
use native.Mathlib.Nat.{zero-mul}
use native.Mathlib.Omega.{arith}
use lib.ListN.{length}
use Rattle.base.specs.Index.{row_next, row_fits}
use Rattle.base.specs.Tests.{told}
use Rattle.window_copy.specs.Grey.{row_is, one_grey}
use Rattle.window_copy.proofs.Grey.{all_yes, all_not}
use Rattle.window_copy.proofs.one_grey.Goals as goal
use Rattle.window_copy.proofs.one_grey.Goals.{At-loop-row, After-grey_row}

-- the next row lies inside the frame
room : (l : At-loop-row) → l.loop-row._row < l.args.rows → let a = l.args in l.loop-row.at + a.columns ≤ length a.frame.now
room l h = let a = l.args in omega (arith, row_fits l.loop-row._row a.rows a.width h)

-- the call answers whether it has the grey
row_has_grey : (g : After-grey_row) → let a = g.args in g.grey_row.result ≡ row_is a.frame.now a.width a.from a.columns g.loop-row._row
row_has_grey g = rw g.loop-row.invariant.0 at g.grey_row.ensures

pub bounds-frame-from : goal.bounds-frame-from
bounds-frame-from c = let a = c.args in omega (arith, row_fits 0 a.rows a.width (omega arith))

pub loop-row-init : goal.loop-row-init
loop-row-init c = (omega (arith, zero-mul c.args.width), refl)

pub grey_row-requires : goal.grey_row-requires
grey_row-requires c = omega (arith, room (goal.at.grey_row-requires c).At-loop-row (omega arith))

pub returns-then-not-grey_row : goal.returns-then-not-grey_row
unfolding one_grey
returns-then-not-grey_row c =
    sym (all_not _ c.args.rows c.loop-row._row (omega arith) (told (row_has_grey (goal.at.returns-then-not-grey_row c).After-grey_row) c.if-not-grey_row.true))

pub overflow_add-at : goal.overflow_add-at
overflow_add-at c = omega (arith, room (goal.at.overflow_add-at c).At-loop-row (omega arith))

pub loop-row-preserved : goal.loop-row-preserved
loop-row-preserved c =
    let l = c.loop-row in
    (omega (arith, row_next l._row c.args.width), all_yes _ l._row l.invariant.1 (told (row_has_grey (goal.at.loop-row-preserved c).After-grey_row) c.if-not-grey_row.false))

pub returns : goal.returns
unfolding one_grey
returns c =
    let l = c.loop-row in
    let e : l._row ≡ c.args.rows = omega arith in
    sym (rw e at l.invariant.1)
