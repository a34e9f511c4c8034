-- `copy_rows`: after i turns the first i rows are copied, and the places are those of row i.
use Prim.Native.Nat.{◌+◌, ◌*◌}
use mathlib.Core.Path.{◌≡◌}
use lib.ListN.{length, get_or}
use Rattle.base.specs.Lists.{stored_rows}
use Rattle.window_copy.proofs.copy_rows.Given as goal

abbrev pub invariant-loop-i : goal.invariant-loop-i
invariant-loop-i g l =
    (l.p ≡ l.from + l._i * l.width) × (l.k ≡ l.at + l._i * l.pitch)
    × (l.copy ≡ stored_rows (λ i j. g.T.Pel.of_pel (get_or l.frame (l.from + i * l.width + j) 0)) l.columns l.initial.copy l.at l.pitch l._i)
    × (length l.copy ≡ length l.initial.copy)
