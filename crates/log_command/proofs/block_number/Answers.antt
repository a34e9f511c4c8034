-- `block_number`: by the distortion.
use mathlib.Core.Path.{sym, ◌∙◌}
use Rattle.log_command.proofs.block_number.Goals as goal

pub returns-then-is_long : goal.returns-then-is_long
returns-then-is_long c = rw (sym c.is_long.ensures ∙ c.if-is_long.true)

pub returns : goal.returns
returns c = rw (sym c.is_long.ensures ∙ c.if-is_long.false)
