-- `step_refusal`: the field's chain, and after it the tests of the track.
use mathlib.Core.Path.{sym, ◌∙◌}
use Rattle.refusals.specs.Refusals.{first_refusal_none}
use Rattle.refusals.specs.Numbers.{handed_first}
use Rattle.track.specs.Track.{step_refusal}
use Rattle.track.proofs.Track.step_refusal.Goals as goal

pub returns-in_err-field_refusal : goal.returns-in_err-field_refusal
unfolding step_refusal
returns-in_err-field_refusal c = handed_first _ _ _ c.from_residual.ensures.1 c.in_err-field_refusal.ensures

pub returns : goal.returns
unfolding step_refusal
returns c = c.state_refusal.ensures ∙ sym (first_refusal_none _ _ (sym c.in_ok-field_refusal.ensures))
