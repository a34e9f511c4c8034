-- `codes_of`: after i turns the first i codes are stored.
use Prim.Native.Nat.{◌≤◌}
use mathlib.Core.Path.{◌≡◌}
use lib.ListN.{length}
use Rattle.base.specs.Lists.{fill_to}
use Rattle.reach.specs.Keys.{code_of}
use Rattle.reach.proofs.codes_of.Given as goal

abbrev pub invariant-loop-i : goal.invariant-loop-i
invariant-loop-i l = (l.i ≤ 33) × (length l.codes ≡ 33) × (l.codes ≡ fill_to l.initial.codes 0 (code_of l.weight) l.i)
