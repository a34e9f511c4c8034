-- What storing a command asks for.
--   stored_distortion   a block command's distortion, which has to fit the list's numbers
use Rattle.std.specs.Prelude.{ℕ}
use Rattle.log_command.specs.declared.Command.{Command}
use Rattle.log_command.specs.declared.Command.TheVariants as Cmd

abbrev pub stored_distortion : Command → ℕ
stored_distortion (Cmd.Head h) = 0
stored_distortion (Cmd.Block dy dx distortion) = distortion
stored_distortion Cmd.Still = 0
stored_distortion (Cmd.End blocks) = 0
stored_distortion (Cmd.Refused number place) = 0
