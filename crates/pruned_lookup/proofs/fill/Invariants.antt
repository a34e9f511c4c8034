-- `fill`: after i turns the first i keys have their distances.
use mathlib.Core.Path.{◌≡◌}
use lib.ListN.{length, get_or}
use Rattle.base.specs.Lists.{fill_to}
use Rattle.pruned_list.specs.Listed.{spot_of, renewed}
use Rattle.pruned_lookup.specs.Lookup.{looked_up}
use Rattle.pruned_lookup.proofs.fill.Given as goal

abbrev pub invariant-loop-i : goal.invariant-loop-i
invariant-loop-i l =
    (l.keys ≡ fill_to l.initial.keys 0 (λ j. renewed (get_or l.initial.keys j 0) (looked_up l.measure l.boxes l.n l.m l.r (spot_of (get_or l.initial.keys j 0)))) l.i)
    × (length l.keys ≡ length l.initial.keys)
