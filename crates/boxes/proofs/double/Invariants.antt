-- `double`: after t turns the first t boxes are stored; what they are made of stands before them.
use mathlib.Core.Path.{◌≡◌}
use lib.ListN.{length}
use Rattle.base.specs.Lists.{fill_to}
use Rattle.boxes.specs.Boxes.{doubled}
use Rattle.boxes.proofs.double.Given as goal

abbrev pub invariant-loop-t : goal.invariant-loop-t
invariant-loop-t l =
    (l.boxes ≡ fill_to l.initial.boxes l.to (doubled l.initial.boxes l.from l.m l.below) l.t) × (length l.boxes ≡ length l.initial.boxes)
