-- 01, "Log": "Another call reads a whole log into a list and answers with the head's numbers." "10 list shorter than three a block; log reading tests it right
-- after an accepted head, with place 8": the place behind it, after command 6 "10 has place 9" (02, request 4). Nothing is stored before the whole log is
-- accepted. "reading a log answers the measure too, 1 after command 1".
--   field_of      the list that a walk's blocks make, three numbers each, in order
--   log_read      what the call answers: the head's refusal; 10; the refusal of the rest; or the head's numbers. The list comes in by its length
--   ReadResult   that, with what the list then holds: read_log
use Rattle.std.specs.Prelude.{ℕ, ◌*◌, cond, ltb, eqb, ℤ, length, drop}
use mathlib.Core.List.{List, ◌++◌, flat_map}
use Rattle.log_head.specs.declared.Head.{Head}
use Rattle.log_command.specs.declared.Command.{Command}
use Rattle.log_command.specs.Commands.{command_number, command_place, command_head, is_refused, block_values}
use Rattle.log_head.specs.Heads.{no_head, head_blocks}
use Rattle.log_cursor.specs.Step.{step_at, start_cursor}
use Rattle.log_cursor.specs.Walk.{walk, last_of}
use Rattle.log_reading.specs.declared.LogRead.{LogRead}

unfoldable pub field_of : List Command → List ℤ
field_of commands = flat_map block_values commands

-- ---- the answer

abbrev pub refused_read : ℕ → ℕ → LogRead
refused_read refusal place = record { refusal = refusal; place = place; head = no_head }

abbrev pub refused_by : Command → LogRead
refused_by command = refused_read (command_number command) (command_place command)

abbrev pub accepted_read : Head → LogRead
accepted_read h = record { refusal = 0; place = 0; head = h }

-- A walk from the start ends with 34 only after the end command with no byte left: then the whole log is accepted.
unfoldable pub log_read : List ℕ → ℕ → LogRead
log_read log list =
    let begun = step_at log start_cursor in
    let ended = last_of (walk log) in
    let h = command_head begun.command in
    cond (is_refused begun.command) (refused_by begun.command)
    (cond (ltb list (3 * head_blocks h)) (refused_read 10 begun.next.at)
    (cond (eqb (command_number ended) 34) (accepted_read h) (refused_by ended)))

-- ---- the call

pub record ReadResult : Type 0 where
  pub answer : LogRead
  pub list : List ℤ

abbrev pub read_result : LogRead → List ℤ → ReadResult
read_result answer list = record { answer = answer; list = list }

unfoldable pub read_log : List ℕ → List ℤ → ReadResult
read_log log list =
    let answer = log_read log (length list) in
    let field = field_of (walk log) in
    read_result answer (cond (eqb answer.refusal 0) (field ++ drop (length field) list) list)
