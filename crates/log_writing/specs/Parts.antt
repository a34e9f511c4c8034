-- The writer's parts: what each puts.
--   head_bytes, numbers_bytes, end_bytes   the bytes of a head, of a block that is not still, and of the end
--   block_bytes   the bytes of block k, still or not
use Rattle.std.specs.Prelude.{ℕ, List, ℤ}
use Rattle.signed.specs.Int.{up}
use Rattle.log_head.specs.declared.Head.{Head}
use Rattle.log_command.specs.declared.Command.TheVariants as Cmd
use Rattle.log_command.specs.Commands.{command_bytes}
use Rattle.log_command.specs.Logs.{block_command}

unfoldable pub head_bytes : Head → List ℕ
head_bytes h = command_bytes (Cmd.Head h)

unfoldable pub numbers_bytes : ℤ → ℤ → ℤ → List ℕ
numbers_bytes dy dx distortion = command_bytes (Cmd.Block dy dx (up distortion))

unfoldable pub end_bytes : ℕ → List ℕ
end_bytes n = command_bytes (Cmd.End n)

unfoldable pub block_bytes : List ℤ → ℕ → List ℕ
block_bytes list k = command_bytes (block_command list k)
