-- 01, "Log": "A log is one head, all grid blocks in order, one end." From head numbers and a list of three numbers a block, as a field fills it.
--   block_command   the command of block k: a still block for (0,0) with distortion 0, "which a block command may not carry"
--   log_commands    the commands of the log
--   log_of          its bytes
use Rattle.std.specs.Prelude.{ℕ, cond, ℤ}
use mathlib.Core.List.{List, [], ◌∷◌, ◌++◌, flat_map}
use Rattle.base.specs.Lists.{list_to}
use Rattle.signed.specs.Int.{up}
use Rattle.log_head.specs.declared.Head.{Head}
use Rattle.log_list.specs.Listed.{value_of}
use Rattle.log_command.specs.declared.Command.{Command}
use Rattle.log_command.specs.declared.Command.TheVariants as Cmd
use Rattle.log_command.specs.Commands.{command_bytes}
use Rattle.log_head.specs.Heads.{head_blocks, is_still}

unfoldable pub block_command : List ℤ → ℕ → Command
block_command list k =
    let dy = value_of list k 0 in
    let dx = value_of list k 1 in
    let distortion = value_of list k 2 in
    cond (is_still dy dx distortion) Cmd.Still (Cmd.Block dy dx (up distortion))

unfoldable pub log_commands : Head → List ℤ → List Command
log_commands h list = Cmd.Head h ∷ list_to (block_command list) (head_blocks h) ++ (Cmd.End (head_blocks h) ∷ [])

unfoldable pub log_of : Head → List ℤ → List ℕ
log_of h list = flat_map command_bytes (log_commands h list)
