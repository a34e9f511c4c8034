-- `request_refusal`: the pair's chain, and after it the tests of search, measure, window and threshold.
use mathlib.Core.Path.{◌≡◌, ap, sym, ◌∙◌}
use Rattle.base.specs.Tests.{told}
use Rattle.measures.specs.Measures.{measure_ok}
use Rattle.refusals.specs.Refusals.{unless, search_ok, window_ok, threshold_ok, pair_refusal, request_refusal, first_refusal_none}
use Rattle.refusals.proofs.request_refusal.Goals as goal
use Rattle.refusals.specs.Numbers.{handed_first}
use Rattle.refusals.proofs.request_refusal.Goals.{After-threshold_ok-threshold, In_ok-pair_refusal}

-- past the pair's chain, the rest of the chain
rest : (d : In_ok-pair_refusal) →
    let a = d.args in
    request_refusal a.older a.newer a.q
    ≡ unless (search_ok a.q.search) 4
    (unless (measure_ok a.q.measure) 51 (unless (window_ok a.q.search a.q.w) 5 (unless (threshold_ok a.q.search a.q.measure a.q.t) 6 0)))
unfolding request_refusal
rest d = first_refusal_none _ _ (sym (d.in_ok-pair_refusal.ensures ∙ ap (pair_refusal _ _) d.setting_of.ensures))

-- the same at the last of the four tests, and what the first two of them gave
past : (t : After-threshold_ok-threshold) →
    let a = t.args in
    request_refusal a.older a.newer a.q
    ≡ unless (search_ok a.q.search) 4
    (unless (measure_ok a.q.measure) 51 (unless (window_ok a.q.search a.q.w) 5 (unless (threshold_ok a.q.search a.q.measure a.q.t) 6 0)))
past t = rest t.before.before.before.before

searched : (t : After-threshold_ok-threshold) →
    t.search_ok-search.result ≡ search_ok t.args.q.search
searched t = t.search_ok-search.ensures

measured : (t : After-threshold_ok-threshold) →
    t.measure_ok-measure.result ≡ measure_ok t.args.q.measure
measured t = t.measure_ok-measure.ensures

pub returns-in_err-pair_refusal : goal.returns-in_err-pair_refusal
unfolding request_refusal
returns-in_err-pair_refusal c =
    handed_first _ _ _ c.from_residual.ensures.1 (c.in_err-pair_refusal.ensures ∙ ap (pair_refusal _ _) c.setting_of.ensures)

pub returns-then-not-search : goal.returns-then-not-search
returns-then-not-search c =
    rw (past (goal.at.returns-then-not-search c).After-threshold_ok-threshold, told (searched (goal.at.returns-then-not-search c).After-threshold_ok-threshold) c.if-not-search.true)

pub returns-then-not-measure : goal.returns-then-not-measure
returns-then-not-measure c =
    rw (past (goal.at.returns-then-not-measure c).After-threshold_ok-threshold, told (searched (goal.at.returns-then-not-measure c).After-threshold_ok-threshold) c.if-not-search.false, told (measured (goal.at.returns-then-not-measure c).After-threshold_ok-threshold) c.if-not-measure.true)

pub returns-then-not-window : goal.returns-then-not-window
returns-then-not-window c =
    rw (past (goal.at.returns-then-not-window c).After-threshold_ok-threshold, told (searched (goal.at.returns-then-not-window c).After-threshold_ok-threshold) c.if-not-search.false, told (measured (goal.at.returns-then-not-window c).After-threshold_ok-threshold) c.if-not-measure.false, told c.window_ok-window.ensures c.if-not-window.true)

pub returns-then-not-threshold : goal.returns-then-not-threshold
returns-then-not-threshold c =
    rw (
      past (goal.at.returns-then-not-threshold c).After-threshold_ok-threshold,
      told (searched (goal.at.returns-then-not-threshold c).After-threshold_ok-threshold) c.if-not-search.false,
      told (measured (goal.at.returns-then-not-threshold c).After-threshold_ok-threshold) c.if-not-measure.false,
      told c.window_ok-window.ensures c.if-not-window.false,
      told c.threshold_ok-threshold.ensures c.if-not-threshold.true,
    )

pub returns : goal.returns
returns c =
    rw (
      past (goal.at.returns c).After-threshold_ok-threshold,
      told (searched (goal.at.returns c).After-threshold_ok-threshold) c.if-not-search.false,
      told (measured (goal.at.returns c).After-threshold_ok-threshold) c.if-not-measure.false,
      told c.window_ok-window.ensures c.if-not-window.false,
      told c.threshold_ok-threshold.ensures c.if-not-threshold.false,
    )
