-- The track's rules in plain numbers. 01, "Field, reading, track": "Home (y, x), each in -1,000,000..1,000,000"; "Steps end at 1,000,000."; "Travel is
-- the reading with both signs turned." 02, request 3: "52, step only, no block votes, tested after 32 and before 33"; request 7: "Step also refuses by 32 a
-- track that holds more than 64, a held part outside -16..16 or a false sum."
--   in_range       -1,000,000..1,000,000
--   home_refusal   11, of a homing place
--   may_step       no 32: fewer than 1,000,000 steps, and none of the three faults
--   state_refusal  31 32, of a track that is to step
--   arrive        the place after a travel, or 52 or 33
use Rattle.std.specs.Prelude.{ℕ, Bool, cond, not, ◌&&◌, leb, eqb, ℤ, pos, nat_abs, neg_ℤ, ◌+ℤ◌, Result, Ok, Err}
use Rattle.refusals.specs.Refusals.{unless}
use Rattle.recent.specs.declared.Recent.{Recent}
use Rattle.recent.specs.Recent.{recent_ok}
use Rattle.refusals.specs.declared.Refusal.{Refusal}
use Rattle.refusals.specs.Numbers.{number_of}

abbrev pub in_range : ℤ → Bool
in_range z = leb (nat_abs z) 1000000

-- 11 homing place out of range
abbrev pub home_refusal : ℤ → ℤ → ℕ
home_refusal y x = unless (in_range y && in_range x) 11 0

abbrev pub may_step : ℕ → Recent → Bool
may_step steps recent = not (leb 1000000 steps) && recent_ok recent

-- 31 step, not homed; 32 step, steps 1,000,000 or more, or one of the three faults in the travels held
abbrev pub state_refusal : Bool → ℕ → Recent → ℕ
state_refusal homed steps recent = unless homed 31 (unless (may_step steps recent) 32 0)

-- 52 step, no block votes; 33 the new y or x would leave its range
abbrev pub arrival_refusal : ℕ → ℤ → ℤ → ℕ
arrival_refusal voters y x = unless (not (eqb voters 0)) 52 (unless (in_range y && in_range x) 33 0)

-- the place after a travel, or 52 or 33 and zeros
pub record Arrival : Type 0 where
  pub refusal : ℕ
  pub y : ℤ
  pub x : ℤ

abbrev pub refused_arrival : ℕ → Arrival
refused_arrival refusal = record { refusal = refusal; y = pos 0; x = pos 0 }

-- the same of what the code answers
abbrev pub arrival_of : Result (ℤ × ℤ) Refusal → Arrival
arrival_of (Ok place) = record { refusal = 0; y = place.0; x = place.1 }
arrival_of (Err r) = refused_arrival (number_of r)

unfoldable pub arrive : (y x dy dx : ℤ) (voters : ℕ) → Arrival
arrive y x dy dx voters =
    let row = y +ℤ neg_ℤ dy in
    let column = x +ℤ neg_ℤ dx in
    let refusal = arrival_refusal voters row column in
    record { refusal = refusal; y = cond (eqb refusal 0) row (pos 0); x = cond (eqb refusal 0) column (pos 0) }
