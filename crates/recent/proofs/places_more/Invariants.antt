-- `places_more`: a store in the next place; or 63 places, each with what stood behind it, and a store in the last.
use mathlib.Core.Path.{◌≡◌}
use Rattle.base.specs.Lists.{fill_to}
use Rattle.recent.proofs.Held.{behind}
use Rattle.recent.proofs.places_more.Given as goal

abbrev pub invariant-loop-k : goal.invariant-loop-k
invariant-loop-k l = l.next ≡ fill_to l.places 0 (behind l.places) l.k
