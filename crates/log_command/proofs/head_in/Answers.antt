-- `head_in`: the operands one by one.
use Rattle.log_command.specs.Operands.{head_in}
use Rattle.log_command.proofs.head_in.Goals as goal

pub returns : goal.returns
unfolding head_in
returns c =
    cc (c.two.ensures.0, c.two-2.ensures.0, c.from.ensures, c.from-2.ensures, c.from-3.ensures, c.measure_in.ensures)
