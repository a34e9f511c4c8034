-- `search`: step 1, then the rest from (0,0).
use mathlib.Core.Path.{ap, ◌∙◌}
use Rattle.signed.specs.Values.{unbias}
use Rattle.search.specs.Matchings.{target_in}
use Rattle.probe.specs.Probe.{origin}
use Rattle.probe.specs.BestSoFar.{result_of}
use Rattle.four_step.specs.FourStep.{from2, four_step}
use Rattle.four_step.proofs.search.Goals as goal

pub returns : goal.returns
unfolding four_step unbias
returns c =
    let a = c.args in
    c.result_of.ensures
    ∙ ap result_of
    (c.from_two-r.ensures.is
    ∙ ap (from2 (target_in a.matching) origin) c.step_one-s.ensures.is)
