-- `head_refusal`: the tests in the chain's order; what each return passed rewrites the chain down to its number.
use mathlib.Core.Path.{◌≡◌, ap, ◌∙◌}
use mathlib.Core.Bool.{true}
use Rattle.base.specs.Tests.{told}
use Rattle.measures.specs.Measures.{measure_ok}
use Rattle.log_head.specs.Heads.{head_refusal, setting_in}
use Rattle.refusals.specs.Refusals.{side_ok, block_ok, search_ok}
use Rattle.log_head.proofs.head_refusal.Goals as goal
use Rattle.log_head.proofs.head_refusal.Goals.{Else-not-block_ok, Else-not-measure, Else-not-search, Else-not-side_ok, Else-not-side_ok-2}

-- what was passed on the way, in the chain's words
wide : (d : Else-not-side_ok) → side_ok d.args.h.width ≡ true
wide d = told d.side_ok.ensures d.if-not-side_ok.false

high : (d : Else-not-side_ok-2) → side_ok d.args.h.height ≡ true
high d = told d.side_ok-2.ensures d.if-not-side_ok-2.false

fits : (d : Else-not-block_ok) → block_ok (setting_in d.args.h) ≡ true
fits d = told (d.block_ok.ensures ∙ ap block_ok d.setting_in.ensures) d.if-not-block_ok.false

pub returns-then-not-side_ok : goal.returns-then-not-side_ok
unfolding head_refusal
returns-then-not-side_ok c = rw (told c.side_ok.ensures c.if-not-side_ok.true)

pub returns-then-not-side_ok-2 : goal.returns-then-not-side_ok-2
unfolding head_refusal
returns-then-not-side_ok-2 c = rw (wide (goal.at.returns-then-not-side_ok-2 c).Else-not-side_ok, told c.side_ok-2.ensures c.if-not-side_ok-2.true)

pub returns-then-not-block_ok : goal.returns-then-not-block_ok
unfolding head_refusal
returns-then-not-block_ok c =
    rw (wide (goal.at.returns-then-not-block_ok c).Else-not-side_ok, high (goal.at.returns-then-not-block_ok c).Else-not-side_ok-2, told (c.block_ok.ensures ∙ ap block_ok c.setting_in.ensures) c.if-not-block_ok.true)

pub returns-then-not-search : goal.returns-then-not-search
unfolding head_refusal
returns-then-not-search c =
    rw (wide (goal.at.returns-then-not-search c).Else-not-side_ok, high (goal.at.returns-then-not-search c).Else-not-side_ok-2, fits (goal.at.returns-then-not-search c).Else-not-block_ok, told c.search_ok-search.ensures c.if-not-search.true)

known : (d : Else-not-search) → search_ok (((d.before.before.before.before).before.before).before.before).args.h.search ≡ true
known d = told d.search_ok-search.ensures d.if-not-search.false

pub returns-then-not-measure : goal.returns-then-not-measure
unfolding head_refusal
returns-then-not-measure c =
    rw (wide (goal.at.returns-then-not-measure c).Else-not-side_ok, high (goal.at.returns-then-not-measure c).Else-not-side_ok-2, fits (goal.at.returns-then-not-measure c).Else-not-block_ok, known (goal.at.returns-then-not-measure c).Else-not-search, told c.measure_ok-measure.ensures c.if-not-measure.true)

carried : (d : Else-not-measure) → measure_ok (((d.before.before.before.before.before).before.before).before.before).args.h.measure ≡ true
carried d = told d.measure_ok-measure.ensures d.if-not-measure.false

pub returns-then-not-window : goal.returns-then-not-window
unfolding head_refusal
returns-then-not-window c =
    rw (wide (goal.at.returns-then-not-window c).Else-not-side_ok, high (goal.at.returns-then-not-window c).Else-not-side_ok-2, fits (goal.at.returns-then-not-window c).Else-not-block_ok, known (goal.at.returns-then-not-window c).Else-not-search, carried (goal.at.returns-then-not-window c).Else-not-measure, told c.window_ok-window.ensures c.if-not-window.true)

pub returns : goal.returns
unfolding head_refusal
returns c =
    rw (wide (goal.at.returns c).Else-not-side_ok, high (goal.at.returns c).Else-not-side_ok-2, fits (goal.at.returns c).Else-not-block_ok, known (goal.at.returns c).Else-not-search, carried (goal.at.returns c).Else-not-measure, told c.window_ok-window.ensures c.if-not-window.false)
