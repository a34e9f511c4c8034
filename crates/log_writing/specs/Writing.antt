-- 01, "Log": writing a log from head numbers and a list into a lent buffer. "Writing answers with the log's length." "Writing tests 1, 3, 4, 5, 10,
-- then 16 with the block's number, from 0, as place, then 19: buffer shorter than the log." 02, request 1: 51 is "tested after 4".
--   WriteResult   what the call answers, with what the buffer then holds: write_log
use Rattle.std.specs.Prelude.{ℕ, List, ◌++◌, cond, not, ltb, eqb, ℤ, length, drop}
use Rattle.log_head.specs.declared.Head.{Head}
use Rattle.log_list.specs.Listed.{list_verdict}
use Rattle.log_command.specs.Logs.{log_of}
use Rattle.log_writing.specs.declared.Written.{Written}

pub record WriteResult : Type 0 where
  pub answer : Written
  pub buffer : List ℕ

abbrev pub write_result : Written → List ℕ → WriteResult
write_result answer buffer = record { answer = answer; buffer = buffer }

abbrev pub refused_write : ℕ → ℕ → Written
refused_write refusal place = record { refusal = refusal; place = place; length = 0 }

-- 1 3 4 51 5 10 16, then 19, then the log over the front of the buffer
unfoldable pub write_log : Head → List ℤ → List ℕ → WriteResult
write_log h list buffer =
    let verdict = list_verdict h list in
    let log = log_of h list in
    cond (not (eqb verdict.refusal 0)) (write_result (refused_write verdict.refusal verdict.place) buffer)
    (cond (ltb (length buffer) (length log)) (write_result (refused_write 19 0) buffer)
    (write_result (record { refusal = 0; place = 0; length = length log }) (log ++ drop (length log) buffer)))
