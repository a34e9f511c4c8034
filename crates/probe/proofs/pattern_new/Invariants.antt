-- `pattern_new`: the points left lead from the best by now to where all lead from the first.
use Rattle.search.specs.Matchings.{target_in}
use Rattle.probe.specs.Probe.{around}
use Rattle.probe.specs.BestSoFar.{vector_of, pairs}
use Rattle.probe.proofs.Looks.{Going}
use Rattle.probe.proofs.pattern_new.Given as goal

abbrev pub invariant-loop-dy : goal.invariant-loop-dy
invariant-loop-dy l =
    Going (target_in l.matching) (around (vector_of l.then) (pairs l.before)) l.centre.y l.centre.x l.p l.offsets l.initial.best l.best l.dy-index
