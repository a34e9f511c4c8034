-- `finish`: the pass at 1, the test of step 6 and the last cross are the definition's.
use mathlib.Core.Path.{ap, ◌∙◌}
use native.Mathlib.Omega.{arith}
use Rattle.search.specs.Matchings.{target_in}
use Rattle.probe.specs.BestSoFar.{vector_of, seen_of}
use Rattle.probe.proofs.Looks.{holds_by}
use Rattle.cross.specs.Cross.{on_diagonal, ended, finished}
use Rattle.cross.proofs.finish.Goals as goal

pub returns : goal.returns
unfolding finished
returns c =
    let a = c.args in
    let t = target_in a.matching in
    let q = c.pass_at-q in
    holds_by c.end.ensures
    (ap (λ k. ended t k (seen_of q.result)) c.on_diagonal-plus_cross.ensures
    ∙ ap (λ m. ended t (on_diagonal (vector_of a.s.at) m.best) m) q.ensures.is)
    (omega arith)
