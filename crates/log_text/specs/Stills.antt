-- Still blocks one after the other: how many stand from an offset on, at most so many.
use Rattle.std.specs.Prelude.{ℕ, zero, suc, ◌+◌, List, cond, get_or, eqb}
use Rattle.log_command.specs.declared.Command.TheVariants as Cmd
use Rattle.log_command.specs.Commands.{command_number}

unfoldable pub still_run : List ℕ → ℕ → ℕ → ℕ
still_run log from zero = 0
still_run log from (suc most) = cond (eqb (get_or log from 0) (command_number Cmd.Still)) (suc (still_run log (from + 1) most)) 0
