-- `run_of_squares`: after q turns the first q are there.
use Prim.Native.Nat.{ℕ, ◌+◌, ◌*◌, ◌<◌}
use mathlib.Core.Path.{◌≡◌}
use lib.ListN.{length, get_or}
use Rattle.boxes.proofs.run_of_squares.Given as goal

abbrev pub invariant-loop-q : goal.invariant-loop-q
invariant-loop-q g l = (length l.v ≡ g.row.COUNT) × ((k : ℕ) → k < l.q → get_or l.v k 0 ≡ get_or l.boxes (l.at + l.m * k) 0)
