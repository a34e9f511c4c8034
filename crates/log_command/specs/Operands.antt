-- 01, "Log": the operands of a command that stands at an offset. "Head: width and height (2 bytes each), N, w, search (1 each). Block: dy, dx as
-- two's-complement bytes, distortion 2 bytes." 02, request 4: command 5 is "a block with a four-byte distortion", command 6 "a head with the measure as an
-- eighth operand byte"; the measure is "1 after command 1".
--   head_in                     a head's numbers; measureIn: its measure
--   dy_in, dx_in, distortion_in   a block's numbers; blockIn: the block that they make
use Rattle.std.specs.Prelude.{ℕ, ◌+◌, List, cond, eqb, get_or, ℤ}
use Rattle.signed.specs.Values.{signed_byte}
use Rattle.log_head.specs.declared.Head.{Head}
use Rattle.log_command.specs.declared.Command.{Command}
use Rattle.log_command.specs.declared.Command.TheVariants as Cmd
use Rattle.log_command.specs.Numbers.{be2, be4}

abbrev pub measure_in : List ℕ → ℕ → ℕ
measure_in log at = cond (eqb (get_or log at 0) 6) (get_or log (at + 8) 0) 1

unfoldable pub head_in : List ℕ → ℕ → Head
head_in log at =
    record {
      width = be2 log (at + 1);
      height = be2 log (at + 3);
      n = get_or log (at + 5) 0;
      w = get_or log (at + 6) 0;
      search = get_or log (at + 7) 0;
      measure = measure_in log at;
    }

abbrev pub dy_in : List ℕ → ℕ → ℤ
dy_in log at = signed_byte (get_or log (at + 1) 0)

abbrev pub dx_in : List ℕ → ℕ → ℤ
dx_in log at = signed_byte (get_or log (at + 2) 0)

abbrev pub distortion_in : List ℕ → ℕ → ℕ
distortion_in log at = cond (eqb (get_or log at 0) 5) (be4 log (at + 3)) (be2 log (at + 3))

abbrev pub block_in : List ℕ → ℕ → Command
block_in log at = Cmd.Block (dy_in log at) (dx_in log at) (distortion_in log at)
