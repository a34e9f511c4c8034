-- `run_at`: the sum so far is that of the first q squares' differences, each of two numbers of 16 bits.
use Prim.Native.Nat.{◌*◌, ◌≤◌}
use mathlib.Core.Path.{◌≡◌}
use Rattle.pruned_lookup.specs.Lookup.{box_run}
use Rattle.pruned_lookup.proofs.run_at.Given as goal

abbrev pub invariant-loop-q : goal.invariant-loop-q
invariant-loop-q l = (l.sum ≤ 4294836225 * l.q) × (l.sum ≡ box_run l.measure l.boxes l.m l.a l.o l.q)
