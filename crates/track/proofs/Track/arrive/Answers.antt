-- `arrive`: the place after the travel, and that travel held; or 52 or 33 and the old track.
use Prim.Native.Nat.{◌+◌, ◌≤◌, ◌<◌}
use mathlib.Core.Path.{◌≡◌, refl, ap, ◌∙◌}
use mathlib.Core.Bool.{true, not}
use native.Mathlib.Omega.{arith}
use borrow.Author.Rules.{rules, sfits_of}
use borrow.Author.Tests.{ne_eqb, not-true, leb-false}
use lib.Dec.{T, leb}
use lib.IntN.{ℤ, pos, nat_abs, neg_ℤ, ◌-ℤ◌, +ℤ_idl}
use mir.Syntax.{w32}
use mir.Val.{SFits, to_z, of_z}
use mir.Facts.{to_z-of_z}
use Rattle.base.specs.Tests.{and_left, and_right, T_true}
use Rattle.order.specs.Vectors.{turned_within}
use Rattle.recent.specs.Recent.{recent_ok, recent_more}
use Rattle.field.specs.declared.FieldAnswer.{FieldAnswer}
use Rattle.track.specs.declared.Track.{Track}
use Rattle.refusals.specs.Numbers.{number_of, number_some}
use Rattle.track_rules.specs.Rules.{may_step, arrival_refusal, Arrival, refused_arrival, arrive}
use Rattle.track.specs.Track.{moved_to, unmoved, travel_of, arrived}
use Rattle.track.proofs.Track.arrive.Goals as goal
use Rattle.track.proofs.Track.arrive.Goals.{In-Err, In-Ok, After-recent_more}

-- the rules' answer, as the track's
module _ (t : Track) (a : FieldAnswer) (r : Arrival) (e : r ≡ arrive t.y t.x a.dy a.dx a.voters) where
  abbrev moved : Track
  moved = moved_to t (travel_of a)

  refusal_is : arrival_refusal a.voters moved.y moved.x ≡ r.refusal
  unfolding arrive
  refusal_is = rw e

  arrived-no : (r.refusal ≡ 0 → ⊥) → unmoved r.refusal t ≡ arrived t a
  unfolding arrived
  arrived-no n = rw (refusal_is, ne_eqb r.refusal 0 n)

  arrived-yes : r.refusal ≡ 0
      → record { answer = a; track = record { homed = true; y = r.y; x = r.x; steps = t.steps + 1; recent = recent_more t.recent (travel_of a) } }
      ≡ arrived t a
  unfolding arrived arrive
  arrived-yes z = rw (e, refusal_is ∙ z)

-- no 32
may-step : (t : Track) → T (may_step t.steps t.recent) → (t.steps < 1000000) × T (recent_ok t.recent)
may-step t h =
    let a = not (leb 1000000 t.steps) in
    let b = recent_ok t.recent in
    (leb-false 1000000 t.steps (not-true (leb 1000000 t.steps) (T_true a (and_left a b h))), and_right a b h)

-- the rules' answer, of parts that come back from their bits unchanged
refused_is : (c : In-Err) → let a = c.args in refused_arrival (number_of c.in-Err.refusal) ≡ arrive a.self.y a.self.x a.a.dy a.a.dx a.a.voters
refused_is c =
    rw (
      to_z-of_z {z = c.args.self.y} (sfits_of {w = w32} c.struct_told-1.given.1.0.1),
      to_z-of_z {z = c.args.self.x} (sfits_of {w = w32} c.struct_told-2-1.given.1.1.0.1),
      to_z-of_z {z = c.args.a.dy} (sfits_of {w = w32} c.struct_told-3-1.given.1.0.1),
      to_z-of_z {z = c.args.a.dx} (sfits_of {w = w32} c.struct_told-4-1.given.1.1.0.1),
    )
    at c.in-Err.ensures

place_is : (c : In-Ok) → let a = c.args in
    record { refusal = 0; y = c.in-Ok.row; x = c.in-Ok.column } ≡ arrive a.self.y a.self.x a.a.dy a.a.dx a.a.voters
place_is c =
    rw (
      to_z-of_z {z = c.args.self.y} (sfits_of {w = w32} c.struct_told-1.given.1.0.1),
      to_z-of_z {z = c.args.self.x} (sfits_of {w = w32} c.struct_told-2-1.given.1.1.0.1),
      to_z-of_z {z = c.args.a.dy} (sfits_of {w = w32} c.struct_told-3-1.given.1.0.1),
      to_z-of_z {z = c.args.a.dx} (sfits_of {w = w32} c.struct_told-4-1.given.1.1.0.1),
    )
    at c.in-Ok.ensures

pub returns-in-Err : goal.returns-in-Err
returns-in-Err c =
    c.unmoved.ensures ∙ arrived-no _ _ _ (refused_is (goal.at.returns-in-Err c).In-Err) (number_some c.in-Err.refusal)

pub overflow_add-result : goal.overflow_add-result
overflow_add-result c =
    omega (arith, (may-step c.args.self c.requires.0).0)

-- a part of the travel: that of the reading turned
part : (z : ℤ) → SFits w32 z → nat_abs z ≤ 16 → to_z w32 (of_z w32 (pos 0 -ℤ to_z w32 (of_z w32 z))) ≡ neg_ℤ z
part z f h = rw (to_z-of_z f, to_z-of_z {w = w32} {z = pos 0 -ℤ z} (search rules)) (+ℤ_idl _)

pub recent_more-requires : goal.recent_more-requires
recent_more-requires c =
    let a = c.args.a in
    rw (part a.dy (sfits_of {w = w32} c.struct_told-in-Ok-1.given.1.0.1) c.requires.1.down, part a.dx (sfits_of {w = w32} c.struct_told-in-Ok-2-1.given.1.1.0.1) c.requires.1.across)
    ((may-step c.args.self c.requires.0).1, turned_within c.requires.1)

recent-is : (c : After-recent_more) →
    let a = c.args in
    c.recent_more.result ≡ recent_more a.self.recent (travel_of a.a)
recent-is c =
    let a = c.args.a in
    rw (part a.dy (sfits_of {w = w32} c.struct_told-in-Ok-1.given.1.0.1) c.requires.1.down, part a.dx (sfits_of {w = w32} c.struct_told-in-Ok-2-1.given.1.1.0.1) c.requires.1.across)
    at c.recent_more.ensures

pub returns-in-Ok : goal.returns-in-Ok
returns-in-Ok c =
    rw (
      to_z-of_z {w = w32} {z = c.in-Ok.row} (search rules),
      to_z-of_z {w = w32} {z = c.in-Ok.column} (search rules),
      recent-is (goal.at.returns-in-Ok c).After-recent_more,
    )
    (arrived-yes _ _ _ (place_is (goal.at.returns-in-Ok c).In-Ok) refl)
