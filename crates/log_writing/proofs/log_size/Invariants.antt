-- `log_size`: the bytes of head and end, and those of each block.
use Prim.Native.Nat.{◌+◌, ◌*◌, ◌≤◌}
use mathlib.Core.Path.{◌≡◌}
use Rattle.base.specs.Lists.{concat_to}
use Rattle.log_writing.specs.Parts.{block_bytes}
use lib.ListN.{length}
use Rattle.log_writing.proofs.log_size.Given as goal

abbrev pub invariant-loop-k : goal.invariant-loop-k
invariant-loop-k l = (l.size ≤ 14 + 7 * l.k) × (l.size ≡ l.initial.size + length (concat_to (block_bytes l.list) l.k))
