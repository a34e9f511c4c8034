-- `fill_32`: after t turns the first t places have their distances.
use mathlib.Core.Path.{◌≡◌}
use Rattle.base.specs.Lists.{fill_to}
use Rattle.pruned_narrow.specs.Narrow.{whole_at}
use Rattle.pruned_narrow.proofs.fill_32.Given as goal

abbrev pub invariant-loop-t : goal.invariant-loop-t
invariant-loop-t l = l.numbers ≡ fill_to l.initial.numbers 0 (whole_at l.boxes) l.t
