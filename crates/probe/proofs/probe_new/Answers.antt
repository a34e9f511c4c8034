-- `probe_new`: outside window 16 there is no candidate; inside, the two shifted parts are the point.
use Prim.Native.Nat.{◌+◌, ◌≤◌}
use mathlib.Core.Path.{◌≡◌, ap₂, subst, sym, ◌∙◌}
use native.Mathlib.Omega.{arith}
use mir.Facts.{to_z-of_z}
use Rattle.signed.specs.Values.{shifted_by, shifted_is}
use Rattle.order.specs.Vectors.{vec}
use Rattle.search.specs.Matchings.{target_in}
use Rattle.probe.specs.Probe.{plus, around}
use Rattle.probe.specs.BestSoFar.{point, vector_of, seen_of, pairs, probe_new, Holds}
use Rattle.probe.proofs.Looks.{holds_same, moved_at, moved_out, far_down, far_across, new_in, new_out, holds_by}
use Rattle.probe.proofs.probe_new.Goals as goal
use Rattle.probe.proofs.probe_new.Goals.{After-shift, After-shift-2, In-Some-shift}

-- the two parts
row : (c : After-shift) → let a = c.args in c.shift.result ≡ shifted_by a.centre.y a.dy 32
row c = rw (to_z-of_z c.ranges.dy) at c.shift.ensures

column : (c : After-shift-2) → let a = c.args in c.shift-2.result ≡ shifted_by a.centre.x a.dx 32
column c = rw (to_z-of_z c.ranges.dx) at c.shift-2.ensures

-- both parts lie in window 16, and are the point
placed : (c : In-Some-shift) →
    let a = c.args in
    let y = c.in-Some.y in
    let x = c.in-Some-shift.x in
    (y ≤ 32) × (x ≤ 32) × (point y x ≡ plus (vector_of a.centre) (vec a.dy a.dx))
placed c =
    let a = c.args in
    let e = sym (let row : let a = c.args in c.shift.result ≡ shifted_by a.centre.y a.dy 32 = rw (to_z-of_z c.ranges.dy) at c.shift.ensures in row) ∙ c.in-Some.is in
    let f = sym (let column : let a = c.args in c.shift-2.result ≡ shifted_by a.centre.x a.dx 32 = rw (to_z-of_z c.ranges.dx) at c.shift-2.ensures in column) ∙ c.in-Some-shift.is in (
      (shifted_is a.centre.y a.dy 32 _ e).1,
      (shifted_is a.centre.x a.dx 32 _ f).1,
      ap₂ vec (moved_at a.centre.y a.dy a.centre.inside.0 _ e) (moved_at a.centre.x a.dx a.centre.inside.1 _ f),
    )

pub returns-in_default : goal.returns-in_default
returns-in_default c =
    let a = c.args in
    let q = c.requires in
    holds_same q.0 (far_down _ _ _ _ a.matching.ready.window _ _ _ (moved_out a.centre.y a.dy a.centre.inside.0 (sym (row (goal.at.returns-in_default c).After-shift) ∙ c.in_default.is)))

pub returns-in_default-shift : goal.returns-in_default-shift
returns-in_default-shift c =
    let a = c.args in
    let q = c.requires in
    holds_same q.0
    (far_across _ _ _ _ a.matching.ready.window _ _ _ (moved_out a.centre.x a.dx a.centre.inside.1 (sym (column (goal.at.returns-in_default-shift c).After-shift-2) ∙ c.in_default-shift.is)))

pub returns-then-is_in : goal.returns-then-is_in
returns-then-is_in c =
    holds_same c.requires.0 (new_in _ _ _ _ (rw (placed (goal.at.returns-then-is_in c).In-Some-shift).2 at (sym c.is_in.ensures ∙ c.if-is_in.true)))

pub invariant_of-at : goal.invariant_of-at
invariant_of-at c = record { inside = ((placed c).0, (placed c).1) }

pub returns : goal.returns
returns c =
    let a = c.args in
    let before = around (vector_of a.then) (pairs a.before.now) in
    let t = target_in a.matching in
    subst (λ v. Holds c.probe_point.result (probe_new t before (seen_of a.s) v) (a.s.count + 1)) (placed (goal.at.returns c).In-Some-shift).2
    (holds_by c.probe_point.ensures (new_out t (seen_of a.s) _ before (sym c.is_in.ensures ∙ c.if-is_in.false)) (omega arith))
