-- `body_step`: the command is inside the log, and no more blocks are counted than the grid has.
use native.Mathlib.Omega.{arith}
use Rattle.log_cursor.specs.Step.{standing_head, standing_blocks, body_within}
use Rattle.log_cursor.proofs.body_step.Goals as goal

pub head_blocks-all-requires : goal.head_blocks-all-requires
head_blocks-all-requires c = standing_head c.args.head c.args.blocks c.requires.1

pub body_command-command-requires : goal.body_command-command-requires
body_command-command-requires c =
    (c.requires.0, standing_head c.args.head c.args.blocks c.requires.1, c.head_blocks-all.ensures.0)

pub overflow_add-counted : goal.overflow_add-counted
overflow_add-counted c =
    omega (arith, standing_blocks c.args.head c.args.blocks c.requires.1, c.head_blocks-all.ensures)

pub step_of-requires : goal.step_of-requires
step_of-requires c =
    rw c.body_command-command.ensures (omega (arith, (body_within {log = c.args.log.now} c.requires.0 c.args.head c.args.blocks).size))

pub returns : goal.returns
returns c = rw (← c.body_command-command.ensures) c.step_of.ensures
