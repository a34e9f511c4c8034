-- `search`: the two sides of the test against T are the definition's.
use mathlib.Core.Path.{ap, ◌∙◌}
use Rattle.search.specs.Matchings.{target_in}
use Rattle.probe.specs.BestSoFar.{seen_of, result_of}
use Rattle.cross.specs.Cross.{finished}
use Rattle.cross.proofs.Passes.{cross_stops, cross_goes}
use Rattle.cross.proofs.search.Goals as goal

pub returns-then-s-t : goal.returns-then-s-t
returns-then-s-t c =
    let a = c.args in
    let f = c.at_origin-s in
    c.result_of.ensures
    ∙ ap result_of
    (cross_stops (target_in a.matching) a.t a.matching.block.w (seen_of f.result) f.ensures.is c.if-s-t.true)

pub returns : goal.returns
returns c =
    let a = c.args in
    let t = target_in a.matching in
    let f = c.at_origin-s in
    c.result_of-2.ensures
    ∙ ap result_of
    (c.finish-r.ensures.is
    ∙ ap (finished t) c.all_passes-q.ensures.is
    ∙ cross_goes t a.t a.matching.block.w (seen_of f.result) f.ensures.is c.if-s-t.false)
