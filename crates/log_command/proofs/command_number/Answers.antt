-- `command_number`: by the command's case; a head and a block have functions of their own.
use Rattle.log_command.proofs.command_number.Goals as goal

pub returns-in-Head : goal.returns-in-Head
returns-in-Head c = rw c.in-Head.is c.head_number.ensures

pub returns-in-Block : goal.returns-in-Block
returns-in-Block c = rw c.in-Block.is c.block_number.ensures
