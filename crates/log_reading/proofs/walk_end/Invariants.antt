-- `walk_end`: how what is left of the walk ends is how the whole ends.
use Prim.Native.Nat.{◌-◌}
use mathlib.Core.Path.{◌≡◌}
use Rattle.log_cursor.specs.Walk.{commands_from, walk, last_of}
use mathlib.Core.List.{◌∷◌}
use Rattle.log_reading.proofs.walk_end.Given as goal

abbrev pub invariant-loop-call : goal.invariant-loop-call
invariant-loop-call l = (last_of (l.last ∷ commands_from (l._call-end - l._call) l.log l.cursor) ≡ last_of (walk l.log))
