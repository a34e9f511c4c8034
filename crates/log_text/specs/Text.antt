-- 01, "Log": what the program prints. "The program reads a log from standard input and prints a line per command until a refusal, 34 itself unprinted."
-- "Lines before a refusal stay printed, the end line before 18 included." "20 program only: more than 65,536 bytes, place 65536, printed alone".
--   longest_log, longest_text   a log that is printed has no more bytes, and its text no more
--   print_log   all that the program prints
use Rattle.std.specs.Prelude.{ℕ, ◌+◌, ◌*◌, cond, length, ltb}
use mathlib.Core.List.{List, flat_map}
use Rattle.log_command.specs.declared.Command.TheVariants as Cmd
use Rattle.log_cursor.specs.Walk.{walk}
use Rattle.log_line.specs.Line.{line_of}

abbrev pub longest_log : ℕ
longest_log = 65536

-- a byte of a log prints 6 at most, the refusal 20
abbrev pub longest_text : ℕ
longest_text = 6 * longest_log + 20

unfoldable pub print_log : List ℕ → List ℕ
print_log log = cond (ltb longest_log (length log)) (line_of (Cmd.Refused 20 longest_log)) (flat_map line_of (walk log))
