-- The text of a log always fits: a still block is 1 byte and prints 6, every other command prints at most 6 a byte, a refusal at most 20.
--   printed_long, printed_walk   what is printed for a log that is too long, and for another
--   fits                         no log prints more than 6 × 65,536 + 20 bytes
--   all_put                      what `print_log` promises of the whole text
use Prim.Native.Nat.{ℕ, zero, suc, ◌+◌, ◌*◌, ◌≤◌, ◌<◌}
use native.Mathlib.Omega.{arith}
use mathlib.Core.Path.{◌≡◌}
use mathlib.Core.List.{List, [], ◌++◌, flat_map}
use mathlib.Core.Bool.{Bool, true, false, cond}
use native.Mathlib.Decide.{dec_lt}
use borrow.Author.Tests.{lt-ltb, le-ltb}
use lib.ListN.{length, length-append}
use Rattle.put.specs.Put.{Put, over_front, put_over}
use Rattle.log_cursor.specs.declared.Cursor.{Cursor}
use Rattle.log_command.specs.declared.Command.TheVariants as Cmd
use Rattle.log_cursor.specs.declared.WalkStep.{WalkStep}
use Rattle.log_command.specs.Numbers.{bytes2, bytes4}
use Rattle.log_command.specs.Commands.{is_long, is_refused}
use Rattle.log_command.specs.Operands.{distortion_in}
use Rattle.log_head.specs.Heads.{headed, entry}
use Rattle.log_cursor.specs.Step.{step_at, start_cursor}
use Rattle.log_cursor.specs.Walk.{commands_from, walk}
use Rattle.log_walks.specs.Cases.{Kind, kinds}
use Rattle.log_line.specs.Line.{worded, line_of}
use Rattle.log_line.proofs.Lengths.{Short, head_line, block_line, end_line, refused_words, refused_line, still_line}
use Rattle.log_text.specs.Text.{longest_log, longest_text, print_log}

-- what so many calls from a cursor on print
abbrev text_from : ℕ → List ℕ → Cursor → List ℕ
text_from calls log c = flat_map line_of (commands_from calls log c)

-- it has at most 6 bytes for each byte left, and a refusal's 20
abbrev Fitted : ℕ → List ℕ → Cursor → Type 0
Fitted calls log c = length (text_from calls log c) + 6 * c.at ≤ 6 * length log + 20

-- a distortion has two bytes or more
some_bytes : (distortion : ℕ) → 2 ≤ length (cond (is_long distortion) (bytes4 distortion) (bytes2 distortion))
some_bytes distortion = go (is_long distortion)
  where
    go : (t : Bool) → 2 ≤ length (cond t (bytes4 distortion) (bytes2 distortion))
    go true = omega arith
    go false = omega arith

one_call_more : (calls : ℕ) (log : List ℕ) (c : Cursor) → length log ≤ longest_log
    → ((next : Cursor) → next.at ≤ length log → Fitted calls log next) → c.at ≤ length log → Fitted (suc calls) log c
unfolding commands_from flat_map
one_call_more calls log c small after h = go (step_at log c) (kinds log c)
  where
    -- a line, and what follows it
    more : (line : List ℕ) (next : Cursor) (m : ℕ) → Short line m → next.at ≤ length log → m + 6 * c.at ≤ 6 * next.at
        → length (line ++ text_from calls log next) + 6 * c.at ≤ 6 * length log + 20
    more line next m s l g = omega (arith, length-append line (text_from calls log next), s.most, after next l)

    go : (s : WalkStep) → Kind log c s
        → length (line_of s.command ++ flat_map line_of (cond (is_refused s.command) [] (commands_from calls log s.next))) + 6 * c.at ≤ 6 * length log + 20
    go s (Kind.refused n place a b none) = omega (arith, length-append (line_of (Cmd.Refused n place)) [], (refused_line n place a (omega arith)).most)
    go s (Kind.head phase there ok) = more _ _ _ (head_line _ (headed _ ok)) there.room (omega arith)
    go s (Kind.block g k phase ok due there passed still) = more _ _ _ (block_line _ _ _ (entry g ok k _ _ _ passed)) there.room
        (omega (arith, some_bytes (distortion_in log c.at)))
    go s (Kind.still g k phase ok due there) = more _ _ _ still_line there.room (omega arith)
    go s (Kind.end g k phase ok full there blocks) = more _ _ _ (end_line _) there.room (omega arith)

from_here : (calls : ℕ) (log : List ℕ) (c : Cursor) → length log ≤ longest_log → c.at ≤ length log → Fitted calls log c
unfolding commands_from flat_map
from_here zero log c small h = omega arith
from_here (suc calls) log c small h = one_call_more calls log c small (λ next l. from_here calls log next small l) h

pub printed_long : (log : List ℕ) → longest_log < length log → print_log log ≡ worded (Cmd.Refused 20 longest_log)
unfolding print_log
printed_long log h = rw (lt-ltb longest_log (length log) h)

pub printed_walk : (log : List ℕ) → length log ≤ longest_log → print_log log ≡ flat_map line_of (walk log)
unfolding print_log
printed_walk log h = rw (le-ltb longest_log (length log) h)

pub fits : (log : List ℕ) → length (print_log log) ≤ longest_text
unfolding walk
fits log = go (dec_lt longest_log (length log))
  where
    go : Dec (65536 < length log) → length (print_log log) ≤ longest_text
    go (yes h) = rw (printed_long log h) (omega (arith, (refused_words 20 longest_log (omega arith) (omega arith)).most))
    go (no h) = rw (printed_walk log (omega arith)) (omega (arith, from_here (length log + 1) log start_cursor (omega arith) (omega arith)))

-- the whole text put from the start on
pub all_put : {before after text : List ℕ} {next : ℕ} (log : List ℕ) → print_log log ≡ text → Put before 0 text after next
    → (after ≡ over_front (print_log log) before) × (next ≡ length (print_log log)) × (next ≤ longest_text)
all_put {next} log e p =
    let o = put_over p in
    let n : next ≡ length (print_log log) = rw e o.1 in
    (rw e o.0, n, omega (arith, fits log))
