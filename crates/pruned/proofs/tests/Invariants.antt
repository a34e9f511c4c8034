-- `tests`: a test at each resolution until one candidate remains, then the answer.
use mathlib.Core.Path.{◌≡◌}
use lib.ListN.{length}
use Rattle.pruned_rule.specs.Spots.{places_of}
use Rattle.pruned.proofs.Rounds.{Turning}
use Rattle.pruned.proofs.tests.Given as goal

abbrev pub invariant-loop-m : goal.invariant-loop-m
invariant-loop-m l =
    Turning l.matching.older.now l.matching.newer.now l.matching.block l.r l.boxes l.keys l.numbers l.counts l.slot l.q l.m × (l.total ≡ length (places_of l.matching.block)) × (length l.keys ≡ length l.initial.keys)

abbrev pub decreases-loop-m : goal.decreases-loop-m
decreases-loop-m l = l.m
