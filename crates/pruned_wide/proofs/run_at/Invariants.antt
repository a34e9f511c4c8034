-- `run_at`: after q turns the first q squares are summed.
use Prim.Native.Nat.{◌+◌, ◌*◌}
use mathlib.Core.Path.{◌≡◌}
use lib.ListN.{get_or}
use Rattle.base.specs.Sum.{sum_to}
use Rattle.pruned_wide.specs.Wide.{squared}
use Rattle.pruned_wide.proofs.run_at.Given as goal

abbrev pub invariant-loop-q : goal.invariant-loop-q
invariant-loop-q g l = l.sum ≡ sum_to (λ i. squared (get_or l.own i 0) (get_or l.boxes (l.at + l.m * i) 0)) l.q
