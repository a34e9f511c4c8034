-- `fill`: what is left of the walk, stored from here on, makes the whole.
use Prim.Native.Nat.{◌-◌}
use Rattle.log_cursor.specs.Walk.{commands_from, walk}
use Rattle.log_reading.specs.Reading.{field_of}
use Rattle.put.specs.Put.{StillToPut}
use Rattle.log_reading.proofs.fill.Given as goal

abbrev pub invariant-loop-call : goal.invariant-loop-call
invariant-loop-call l =
    StillToPut l.list l.at (field_of (commands_from (l._call-end - l._call) l.log l.cursor)) l.initial.list 0 (field_of (walk l.log))
