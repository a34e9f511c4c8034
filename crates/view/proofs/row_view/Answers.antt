-- `row_view`: the part that the place names ends inside each frame, refused or not; a refused call's part is empty.
use Prim.Native.Nat.{ℕ, ◌+◌, ◌≤◌}
use mathlib.Core.Path.{refl, ap₂}
use native.Mathlib.Omega.{arith}
use borrow.Author.Tests.{eq-eqb, ne_eqb}
use lib.ListN.{length}
use Rattle.frame.specs.Pictures.{pair_of}
use Rattle.view.specs.View.{view_ends, view_older, view_newer}
use Rattle.view.proofs.row_view.Goals as goal
use Rattle.view.proofs.row_view.Goals.{After-view_place-view}

-- where the part ends, in either frame
ends : (d : After-view_place-view) →
    let a = d.args in
    let e = d.view_place-view.result.place + d.view_place-view.result.length in
    (e ≤ length a.older.now) × (e ≤ length a.newer.now)
ends d =
    let a = d.args in
    view_ends (pair_of a.older.now a.newer.now a.s) a.side a.row a.column _ d.view_place-view.ensures

pub overflow_add-end : goal.overflow_add-end
overflow_add-end c = omega (arith, ends (goal.at.overflow_add-end c).After-view_place-view)

pub slice_bounds-result-end : goal.slice_bounds-result-end
slice_bounds-result-end c = omega (arith, ends (goal.at.slice_bounds-result-end c).After-view_place-view)

pub returns-then-side-eq0 : goal.returns-then-side-eq0
returns-then-side-eq0 c =
    let a = c.args in (
      view_older (pair_of a.older.now a.newer.now a.s) a.side a.row a.column _ c.view_place-view.ensures c.if-side-eq0.true,
      rw (eq-eqb a.side 0 c.if-side-eq0.true, ← c.view_place-view.ensures) (ap₂ (λ (b o : ℕ). (b, o)) refl (omega arith)),
    )

pub slice_bounds-result-end-2 : goal.slice_bounds-result-end-2
slice_bounds-result-end-2 c = omega (arith, ends (goal.at.slice_bounds-result-end-2 c).After-view_place-view)

pub returns : goal.returns
returns c =
    let a = c.args in (
      view_newer (pair_of a.older.now a.newer.now a.s) a.side a.row a.column _ c.view_place-view.ensures c.if-side-eq0.false,
      rw (ne_eqb a.side 0 c.if-side-eq0.false, ← c.view_place-view.ensures) (ap₂ (λ (b o : ℕ). (b, o)) refl (omega arith)),
    )
