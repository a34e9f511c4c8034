-- `head_number`: by whether the head carries its measure.
use mathlib.Core.Path.{sym, ◌∙◌}
use Rattle.log_command.proofs.head_number.Goals as goal

pub returns-then-carries : goal.returns-then-carries
returns-then-carries c = rw (sym c.carries.ensures ∙ c.if-carries.true)

pub returns : goal.returns
returns c = rw (sym c.carries.ensures ∙ c.if-carries.false)
