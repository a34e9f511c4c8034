-- 01, "Field, reading, track": "The track holds homed or not, y, x and steps. New: not homed, 0, 0, 0. Home (y, x), each in -1,000,000..1,000,000: homed,
-- that place, steps 0. Step (pair, search): adds the travel to y, x and 1 to steps, and answers with the track and all that the field call answers. Steps
-- end at 1,000,000. A refused call changes nothing in the track." "Travel is the reading with both signs turned." 02, request 3: a step's pair has a voter;
-- request 7: "The track holds the last 64 travels, oldest first, and the sum of each part as stored numbers, kept true by step and homing alike."
--   track_new, homed_at, moved_to   the track: new, homed at a place, after a travel
--   track_home    what Home answers: 11, or the new place
--   step_refusal  the refusals of a step that come before anything is filled: 1 2 3 4 51 5 6 9 10 31 32
--   arrived      the travel added, or 52 or 33
--   StepResult   what a step answers, with what list and table then hold: track_step
use Rattle.std.specs.Prelude.{ℕ, ◌+◌, ◌≡◌, true, false, cond, List, eqb, ℤ, pos, ◌+ℤ◌, length}
use Rattle.std.proofs.Common.{ne_eqb}
use Rattle.order.specs.declared.Vector.{Vector}
use Rattle.order.specs.Vectors.{vec, turned}
use Rattle.refusals.specs.declared.Request.{Request}
use Rattle.refusals.specs.Refusals.{first_refusal}
use Rattle.field.specs.declared.FieldAnswer.{FieldAnswer}
use Rattle.field_rules.specs.Rules.{field_refusal}
use Rattle.field.specs.Field.{refused_field, FieldResult, field}
use Rattle.recent.specs.Recent.{no_travels, recent_more}
use Rattle.track_rules.specs.Rules.{home_refusal, state_refusal, arrival_refusal}
use Rattle.track.specs.declared.Track.{Track}
use Rattle.track.specs.declared.Homed.{Homed}
use Rattle.track.specs.declared.Stepped.{Stepped}

abbrev pub track_new : Track
track_new = record { homed = false; y = pos 0; x = pos 0; steps = 0; recent = no_travels }

-- "Homing empties them, all places and sums 0."
abbrev pub homed_at : ℤ → ℤ → Track
homed_at y x = record { homed = true; y = y; x = x; steps = 0; recent = no_travels }

-- "adds the travel to y, x and 1 to steps", and holds it
abbrev pub moved_to : Track → Vector → Track
moved_to t v = record { homed = true; y = t.y +ℤ v.dy; x = t.x +ℤ v.dx; steps = t.steps + 1; recent = recent_more t.recent v }

-- ---- Home

unfoldable pub track_home : Track → ℤ → ℤ → Homed
track_home t y x =
    let refusal = home_refusal y x in
    record { refusal = refusal; track = cond (eqb refusal 0) (homed_at y x) t }

-- ---- Step

-- the field's refusals, then 31 and 32: "Tested after all input refusals."
unfoldable pub step_refusal : Track → ℕ → ℕ → Request → ℕ → ℕ → ℕ
step_refusal t older newer q list table = first_refusal (field_refusal older newer q list table) (state_refusal t.homed t.steps t.recent)

-- refused: the number, zeros elsewhere and the old track
abbrev pub unmoved : ℕ → Track → Stepped
unmoved refusal t = record { track = t; answer = refused_field refusal }

-- "Travel is the reading with both signs turned."
abbrev pub travel_of : FieldAnswer → Vector
travel_of a = turned (vec a.dy a.dx)

-- the track moved by the travel, or 52 or 33
unfoldable pub arrived : Track → FieldAnswer → Stepped
arrived t a =
    let moved = moved_to t (travel_of a) in
    let refusal = arrival_refusal a.voters moved.y moved.x in
    cond (eqb refusal 0) (record { track = moved; answer = a }) (unmoved refusal t)

pub record StepResult : Type 0 where
  pub stepped : Stepped
  pub list : List ℤ
  pub table : List ℕ

abbrev pub step_result : Stepped → List ℤ → List ℕ → StepResult
step_result stepped list table = record { stepped = stepped; list = list; table = table }

-- list and table are filled, whether 52 or 33 applies or neither: "33 ..; list and table are then as after an accepted step"; "52 ..; list and table are
-- filled as with 33"
abbrev pub landed : Track → FieldResult → StepResult
landed t f = step_result (arrived t f.answer) f.list f.table

unfoldable pub track_step : Track → List ℕ → List ℕ → Request → List ℤ → List ℕ → StepResult
track_step t older newer q list table =
    let refusal = step_refusal t (length older) (length newer) q (length list) (length table) in
    cond (eqb refusal 0) (landed t (field older newer q list table)) (step_result (unmoved refusal t) list table)

module _ (t : Track) (older newer : List ℕ) (q : Request) (list : List ℤ) (table : List ℕ) where
  abbrev pub step_refusal_is : ℕ
  step_refusal_is = step_refusal t (length older) (length newer) q (length list) (length table)

  pub step_refused : (step_refusal_is ≡ 0 → ⊥) → track_step t older newer q list table ≡ step_result (unmoved step_refusal_is t) list table
  unfolding track_step
  step_refused h = rw (ne_eqb _ 0 h)

  pub step_landed : step_refusal_is ≡ 0 → track_step t older newer q list table ≡ landed t (field older newer q list table)
  unfolding track_step
  step_landed h = rw h
