-- `nearest`: after i turns the least of the key that it begins with and those of the first i rows.
use Prim.Native.Nat.{◌+◌, ◌*◌}
use Rattle.pruned_sift.specs.Laid.{key_in}
use Rattle.pruned_sift.proofs.Rows.{Passed}
use Rattle.pruned_sift.proofs.nearest.Given as goal

abbrev pub invariant-loop-i : goal.invariant-loop-i
invariant-loop-i l = Passed (key_in l.numbers l.pitch l.r) l.r (l.bottom * 262144 + 262143) l.i l.best
