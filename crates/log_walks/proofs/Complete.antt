-- A log made of head numbers and entries that 15 and 16 let pass is accepted: the walker hands out each of its commands where it stands, and then 34.
use Prim.Native.Nat.{ℕ, zero, suc, ◌+◌, ◌-◌, ◌≤◌, ◌<◌}
use mathlib.Core.Path.{◌≡◌, refl, sym, ap, ◌∙◌}
use mathlib.Core.List.{List, [], ◌∷◌, ◌++◌, flat_map, append_assoc}
use mathlib.Core.Bool.{true, false}
use native.Mathlib.Omega.{arith}
use lib.IntN.{ℤ}
use lib.ListN.{length, drop, length-drop}
use Rattle.base.specs.Lists.{list_to}
use Rattle.log_head.specs.declared.Head.{Head}
use Rattle.log_cursor.specs.declared.Phase.TheVariants.{Body, Ended}
use Rattle.log_cursor.specs.declared.Cursor.{Cursor}
use Rattle.log_command.specs.declared.Command.{Command}
use Rattle.log_command.specs.declared.Command.TheVariants as Cmd
use Rattle.log_command.specs.Commands.{command_bytes, command_size, is_refused}
use Rattle.log_head.specs.Heads.{head_refusal, head_blocks, entry_ok}
use Rattle.log_command.specs.Logs.{block_command, log_commands, log_of}
use Rattle.log_list.specs.Listed.{value_of}
use Rattle.log_cursor.specs.Step.{command_step, refused_step, step_at, start_cursor}
use Rattle.log_cursor.specs.Walk.{commands_from, walk}
use Rattle.base.specs.Fronts.{list_from, list_to_from}
use Rattle.log_walks.proofs.Made.{Made, as_still, as_block, made}
use Rattle.log_walks.proofs.Steps.{room, behind, block_step, still_step, end_step, ended_step, head_step}

-- a call that hands out a command, and one that is refused
call_on : (calls : ℕ) (log : List ℕ) (c : Cursor) (x : Command) (to : Cursor) → 0 < calls → step_at log c ≡ record { command = x; next = to }
    → is_refused x ≡ false → commands_from calls log c ≡ x ∷ commands_from (calls - 1) log to
unfolding commands_from
call_on zero log c x to p e f = absurd (omega arith)
call_on (suc calls) log c x to p e f =
    let n : suc calls - 1 ≡ calls = omega arith in
    rw (e, f, n)

call_away : (calls : ℕ) (log : List ℕ) (c : Cursor) (at number place : ℕ) → 0 < calls → step_at log c ≡ refused_step at number place
    → commands_from calls log c ≡ Cmd.Refused number place ∷ []
unfolding commands_from
call_away zero log c at number place p e = absurd (omega arith)
call_away (suc calls) log c at number place p e = rw e

-- a block is no refusal and has a byte
block_given : {dy dx z : ℤ} {x : Command} → Made dy dx z x → (is_refused x ≡ false) × (0 < length (command_bytes x))
block_given (as_still e) = (refl, omega arith)
block_given (as_block e) = (refl, omega arith)

module _ (h : Head) (list : List ℤ) (ok : head_refusal h ≡ 0)
    (entries : (k : ℕ) → k < head_blocks h → entry_ok h k (value_of list k 0) (value_of list k 1) (value_of list k 2) ≡ true)
    (log : List ℕ) where
  abbrev body : ℕ → ℕ → Cursor
  body at k = record { at = at; phase = Body h k }

  -- a block of either kind
  on_block : (at k : ℕ) → k < head_blocks h → (rest : List ℕ) (x : Command) → Made (value_of list k 0) (value_of list k 1) (value_of list k 2) x
      → drop at log ≡ command_bytes x ++ rest → step_at log (body at k) ≡ command_step x at (Body h (k + 1))
  on_block at k l rest x (as_still e) goes = still_step log at h k ok l rest goes
  on_block at k l rest x (as_block e) goes = block_step log at h k ok l (value_of list k 0) (value_of list k 1) (value_of list k 2) (entries k l) e rest goes

  -- so many blocks from block k on, and the end
  rest_walked : (n at k calls : ℕ) → n + k ≡ head_blocks h → length log < calls + at
      → drop at log ≡ flat_map command_bytes (list_from (block_command list) k n ++ (Cmd.End (head_blocks h) ∷ []))
      → commands_from calls log (body at k) ≡ list_from (block_command list) k n ++ (Cmd.End (head_blocks h) ∷ Cmd.Refused 34 0 ∷ [])
  unfolding list_from flat_map
  rest_walked zero at k calls e enough goes =
      let to = at + command_size (Cmd.End (head_blocks h)) in
      let m : to ≤ length log = room log at (command_bytes (Cmd.End (head_blocks h))) [] goes (omega arith) in
      let n : length log ≤ to = omega (arith, length-drop at log, ap length goes) in
      call_on calls log (body at k) _ _ (omega arith) (end_step log at h k ok (omega arith) [] goes) refl
      ∙ ap (◌∷◌ (Cmd.End (head_blocks h))) (call_away (calls - 1) log (record { at = to; phase = Ended }) _ 34 0 (omega arith) (ended_step log to (omega arith)))
  rest_walked (suc n) at k calls e enough goes =
      let bytes = command_bytes (block_command list k) in
      let rest = flat_map command_bytes (list_from (block_command list) (k + 1) n ++ (Cmd.End (head_blocks h) ∷ [])) in
      let given = block_given (made list k) in
      let m : at + length bytes ≤ length log = room log at bytes rest goes given.1 in
      call_on calls log (body at k) _ _ (omega arith) (on_block at k (omega arith) rest (block_command list k) (made list k) goes) given.0
      ∙ ap (◌∷◌ (block_command list k)) (rest_walked n (at + length bytes) (k + 1) (calls - 1) (omega arith) (omega arith) (behind log at bytes rest goes))

pub complete : (h : Head) (list : List ℤ) → head_refusal h ≡ 0
    → ((k : ℕ) → k < head_blocks h → entry_ok h k (value_of list k 0) (value_of list k 1) (value_of list k 2) ≡ true)
    → walk (log_of h list) ≡ log_commands h list ++ (Cmd.Refused 34 0 ∷ [])
unfolding walk log_of log_commands flat_map
complete h list ok entries =
    let blocks = list_to (block_command list) (head_blocks h) in
    let end = Cmd.End (head_blocks h) ∷ [] in
    let rest = flat_map command_bytes (blocks ++ end) in
    let log = command_bytes (Cmd.Head h) ++ rest in
    let from = list_to_from (block_command list) (head_blocks h) in
    call_on (length log + 1) log start_cursor (Cmd.Head h) _ (omega arith) (head_step h rest ok) refl
    ∙ ap (◌∷◌ (Cmd.Head h))
    (rest_walked h list ok entries log (head_blocks h) (0 + command_size (Cmd.Head h)) 0 (length log + 1 - 1) (omega arith) (omega arith)
    (behind log 0 (command_bytes (Cmd.Head h)) rest refl ∙ ap (λ (cs : List Command). flat_map command_bytes (cs ++ end)) from)
    ∙ ap (λ (cs : List Command). cs ++ (Cmd.End (head_blocks h) ∷ Cmd.Refused 34 0 ∷ [])) (sym from)
    ∙ sym (append_assoc blocks end (Cmd.Refused 34 0 ∷ [])))
