-- `put_word`: byte by byte, the bytes before the next are put.
use Prim.Native.Nat.{◌+◌}
use mathlib.Core.Path.{◌≡◌}
use lib.ListN.{length, take}
use Rattle.put.specs.Put.{Put}
use Rattle.log_line.proofs.put_word.Given as goal

abbrev pub invariant-loop-b : goal.invariant-loop-b
invariant-loop-b l = (l.k ≡ l.at + l.b-index) × (length l.out ≡ length l.initial.out) × Put l.initial.out l.at (take l.b-index l.word) l.out l.k
