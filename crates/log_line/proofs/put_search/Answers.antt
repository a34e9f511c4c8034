-- `put_search`: two numbers, or one.
use mathlib.Core.Path.{sym, ◌∙◌}
use native.Mathlib.Omega.{arith}
use Rattle.put.specs.Put.{put_then}
use Rattle.log_line.specs.Line.{spaced}
use Rattle.log_line.proofs.put_search.Goals as goal

pub returns-then-carries : goal.returns-then-carries
unfolding spaced
returns-then-carries c =
    (rw (sym c.carries.ensures ∙ c.if-carries.true) (put_then c.put_field-k.ensures.0 c.put_field.ensures.0), omega arith)

pub returns : goal.returns
unfolding spaced
returns c =
    (rw (sym c.carries.ensures ∙ c.if-carries.false) c.put_field-2.ensures.0, omega arith)
