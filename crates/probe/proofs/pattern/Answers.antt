-- `pattern`: no point is in a pattern without offsets.
use mathlib.Core.Path.{ap}
use native.Mathlib.Omega.{arith}
use Rattle.search.specs.Matchings.{target_in}
use Rattle.probe.specs.Probe.{probe, around}
use Rattle.probe.specs.BestSoFar.{seen_of, pairs}
use Rattle.probe.proofs.Probe.{fresh_none}
use Rattle.probe.proofs.Looks.{holds_by}
use Rattle.probe.proofs.pattern.Goals as goal

pub returns : goal.returns
unfolding pairs around
returns c =
    let a = c.args in
    holds_by c.pattern_new.ensures (ap (probe (target_in a.matching) (seen_of a.s)) (fresh_none _)) (omega arith)
