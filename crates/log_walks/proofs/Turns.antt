-- A turn of a loop over a walk that puts what f gives for each command: what f gives for this one, then what is left; nothing after a refusal.
use Prim.Native.Nat.{ℕ, ◌-◌, ◌<◌}
use mathlib.Core.Path.{◌≡◌}
use mathlib.Core.List.{List, [], flat_map}
use mathlib.Core.Bool.{Bool, cond}
use Rattle.put.specs.Put.{Put, StillToPut, rest_more}
use Rattle.log_command.specs.declared.Command.{Command}
use Rattle.log_cursor.specs.declared.Cursor.{Cursor}
use Rattle.log_cursor.specs.declared.WalkStep.{WalkStep}
use Rattle.log_command.specs.Commands.{is_refused}
use Rattle.log_cursor.specs.Step.{step_at}
use Rattle.log_cursor.specs.Walk.{commands_from, commands_next}

pub turn : {A : Type 0} (f : Command → List A) {out m before whole : List A} {at k from : ℕ} (calls : ℕ) (log : List ℕ) (c : Cursor) (s : WalkStep) (t : Bool)
    → 0 < calls → s ≡ step_at log c → t ≡ is_refused s.command
    → StillToPut out at (flat_map f (commands_from calls log c)) before from whole → Put out at (f s.command) m k
    → StillToPut m k (flat_map f (cond t [] (commands_from (calls - 1) log s.next))) before from whole
unfolding flat_map
turn f calls log c s t h e g r w = rest_more (rw (commands_next calls log c s t h e g) at r) w
