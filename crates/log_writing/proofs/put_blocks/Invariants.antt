-- `put_blocks`: each turn puts one block behind those before it.
use Prim.Native.Nat.{◌+◌, ◌*◌, ◌≤◌}
use mathlib.Core.Path.{◌≡◌}
use Rattle.put.specs.Put.{Put}
use Rattle.base.specs.Lists.{concat_to}
use Rattle.log_writing.specs.Parts.{block_bytes}
use lib.ListN.{length}
use Rattle.log_writing.proofs.put_blocks.Given as goal

abbrev pub invariant-loop-k : goal.invariant-loop-k
invariant-loop-k l = (l.next ≤ 9 + 7 * l.k) × (length l.out ≡ length l.initial.out) × Put l.initial.out l.at (concat_to (block_bytes l.list) l.k) l.out l.next
