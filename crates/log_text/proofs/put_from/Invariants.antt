-- `put_from`: what is still to be put, put from here on, makes the whole text; a turn puts a line of it.
use Prim.Native.Nat.{◌+◌, ◌-◌, ◌*◌, ◌≤◌}
use mathlib.Core.List.{flat_map}
use Rattle.put.specs.Put.{StillToPut}
use Rattle.log_cursor.specs.Walk.{commands_from}
use Rattle.log_line.specs.Line.{line_of}
use Rattle.log_text.proofs.put_from.Given as goal

abbrev pub invariant-loop-call : goal.invariant-loop-call
invariant-loop-call l =
    (l.at + 128 * (l.most - l._call) ≤ l.from + 128 * l.most)
    × StillToPut l.out l.at (flat_map line_of (commands_from (l.most - l._call) l.log l.cursor)) l.initial.out l.from (flat_map line_of (commands_from l.most l.log l.initial.cursor))
