-- `copy_strip`: after i rows and c pels of the next the strip is filled so far.
use Prim.Native.Nat.{◌+◌, ◌*◌}
use mathlib.Core.Path.{◌≡◌}
use lib.ListN.{length, get_or}
use Rattle.base.specs.Lists.{fill_to}
use Rattle.base.specs.Rows.{Rowed}
use Rattle.full.proofs.copy_strip.Given as goal

abbrev pub invariant-loop-c : goal.invariant-loop-c
invariant-loop-c l =
    (length l.strip ≡ 320) × (l.strip ≡ fill_to l.initial.strip (8 * l.i) (λ k. get_or l.window (64 * l.i + l.j + k) 0) l.c)

abbrev pub invariant-loop-i : goal.invariant-loop-i
invariant-loop-i l = Rowed (λ i k. get_or l.window (64 * i + l.j + k) 0) 8 l.initial.strip l.strip l.i
