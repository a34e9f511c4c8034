-- `command_size`: by the command's case; the laws of sizes say how many bytes a head and a block are.
use mathlib.Core.Path.{ap, sym, ◌∙◌}
use Rattle.log_command.specs.Commands.{size_by, head_size, block_size}
use Rattle.log_command.proofs.command_size.Goals as goal

pub returns-in-Head : goal.returns-in-Head
returns-in-Head c =
    rw c.in-Head.is (c.size_by.ensures ∙ ap size_by c.head_number.ensures ∙ sym (head_size c.in-Head.head))

pub returns-in-Block : goal.returns-in-Block
returns-in-Block c =
    rw c.in-Block.is (c.size_by-in-Block.ensures ∙ ap size_by c.block_number.ensures ∙ sym (block_size c.in-Block.dy c.in-Block.dx c.in-Block.distortion))
