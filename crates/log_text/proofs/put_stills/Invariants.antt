-- `put_stills`: a turn puts a line of those that are still to be put.
use Prim.Native.Nat.{◌+◌, ◌-◌, ◌*◌, ◌≤◌}
use mathlib.Core.List.{flat_map}
use lib.ListN.{replicate}
use Rattle.put.specs.Put.{StillToPut}
use Rattle.log_command.specs.declared.Command.TheVariants as Cmd
use Rattle.log_line.specs.Line.{line_of}
use Rattle.log_text.proofs.put_stills.Given as goal

abbrev pub invariant-loop-still : goal.invariant-loop-still
invariant-loop-still l =
    (l.at + 6 * (l.n - l._still) ≤ l.from + 6 * l.n) × StillToPut l.out l.at (flat_map line_of (replicate (l.n - l._still) Cmd.Still)) l.initial.out l.from (flat_map line_of (replicate l.n Cmd.Still))
