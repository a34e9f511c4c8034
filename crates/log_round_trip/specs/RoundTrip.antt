-- Writing, reading and walking a log agree with each other. proofs/RoundTrip.antt has the theorem, round_trip : RoundTrip.
-- From below come, as the contracts of the code cite them:
--   write_log      what writing answers, with the buffer afterwards (crates/log_writing)
--                 log_of, log_commands: the log of a head and a list, as bytes and as commands
--   read_log       what reading answers, with the list afterwards (crates/log_reading); field_of: the list that a walk's blocks make
--   step_at        one call of the walker, from any cursor (crates/log_cursor)
--                 commands_from: the commands of so many calls; walk: of all, from the log's start; log_head: the head that the first hands out
--   answers_from   the answers of the plain call, each from the place that the one before handed back, until a refusal (crates/log_plain)
--                 CommandsOf: they tell these commands
use Rattle.std.specs.Prelude.{ℕ, ◌+◌, ◌*◌, ◌≤◌, ◌<◌, ◌≡◌, ◌↔◌, true, List, [], ◌∷◌, ◌++◌, ℤ, length, take, drop}
use Rattle.base.specs.Lists.{Each}
use Rattle.log_head.specs.declared.Head.{Head}
use Rattle.log_cursor.specs.declared.Cursor.{Cursor}
use Rattle.log_command.specs.declared.Command.TheVariants as Cmd
use Rattle.log_command.specs.Commands.{command_number, is_refused}
use Rattle.log_head.specs.Heads.{head_blocks}
use Rattle.log_command.specs.Logs.{log_commands, log_of}
use Rattle.log_cursor.specs.Step.{step_at, start_cursor}
use Rattle.log_cursor.specs.Walk.{commands_from, walk, log_head, last_of}
use Rattle.log_plain.specs.Plain.{plain_of, answers_from, CommandsOf}
use Rattle.log_writing.specs.Writing.{write_result, write_log}
use Rattle.log_reading.specs.Reading.{field_of, accepted_read, read_result, read_log}

pub record RoundTrip : Type 0 where
  -- A log that is written stands in the front of the buffer,
  pub written_log : (h : Head) (list : List ℤ) (buffer : List ℕ) → (write_log h list buffer).answer.refusal ≡ 0
      → take (write_log h list buffer).answer.length (write_log h list buffer).buffer ≡ log_of h list
  -- and reads back as the same head, its measure too, and field, into every list that is long enough; places past the field keep what they held.
  pub written_reads_back : (h : Head) (list : List ℤ) (buffer : List ℕ) → (write_log h list buffer).answer.refusal ≡ 0
      → (other : List ℤ) → 3 * head_blocks h ≤ length other
      → read_log (log_of h list) other ≡ read_result (accepted_read h) (take (3 * head_blocks h) list ++ drop (3 * head_blocks h) other)
  -- A log of bytes that is accepted is written back with the same bytes, from the head and the list that reading gave, into every buffer that is long enough.
  pub read_writes_back : (log : List ℕ) → Each (λ (b : ℕ). b < 256) log → (list : List ℤ) → (read_log log list).answer.refusal ≡ 0
      → (buffer : List ℕ) → length log ≤ length buffer
      → write_log (read_log log list).answer.head (read_log log list).list buffer
      ≡ write_result (record { refusal = 0; place = 0; length = length log }) (log ++ drop (length log) buffer)
  -- Reading accepts a log just where the walker does, by 34 at its end, and the list is long enough.
  pub accepted_alike : (log : List ℕ) (list : List ℤ)
      → ((read_log log list).answer.refusal ≡ 0) ↔ ((command_number (last_of (walk log)) ≡ 34) × (3 * head_blocks (log_head log) ≤ length list))
  -- The walker's commands over an accepted log are the log's, one head, all grid blocks in order, one end, and then 34.
  pub accepted_walk : (log : List ℕ) → command_number (last_of (walk log)) ≡ 34
      → walk log ≡ log_commands (log_head log) (field_of (walk log)) ++ (Cmd.Refused 34 0 ∷ [])
  -- The walker ends: from any cursor, length + 1 calls meet a refusal,
  pub walker_ends : (log : List ℕ) (c : Cursor) → is_refused (last_of (commands_from (length log + 1) log c)) ≡ true
  -- and after it the next call answers 34 and leaves the walker where it stood: so does every further call.
  pub walker_stays : (log : List ℕ) (c : Cursor) → is_refused (step_at log c).command ≡ true
      → step_at log (step_at log c).next ≡ record { command = Cmd.Refused 34 0; next = (step_at log c).next }
  -- A caller of the plain call who begins with the start's plain numbers and hands `next` back until the answer is a refusal sees the walk, and however
  -- many calls are allowed beyond the log's length, makes no more.
  pub plain_walk : (log : List ℕ) (calls : ℕ) → length log < calls → CommandsOf (answers_from calls log (plain_of start_cursor)) (walk log)
