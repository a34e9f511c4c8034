-- `field`: a refusal leaves everything as it was lent; past it the field is filled.
use mathlib.Core.Path.{sym, ◌∙◌}
use Rattle.refusals.specs.Numbers.{number_some}
use Rattle.field_rules.specs.Rules.{has_room}
use Rattle.field.specs.Field.{field_refused, field_accepted}
use Rattle.field.proofs.field.Goals as goal

pub returns-in-Err : goal.returns-in-Err
returns-in-Err c =
    let r = c.in-Err.ensures in
    rw (c.refused_field.ensures, c.into.ensures, r) (sym (field_refused _ _ _ _ _ (λ e. number_some c.in-Err.refusal (r ∙ e))))

pub fill-requires : goal.fill-requires
fill-requires c = has_room _ _ _ _ _ (sym c.in_default.ensures)

pub returns : goal.returns
returns c = c.fill.ensures ∙ sym (field_accepted _ _ _ _ _ (sym c.in_default.ensures))
