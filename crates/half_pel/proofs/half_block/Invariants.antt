-- `half_block`: after i turns the first i rows are stored, and the places are those of row i.
use Prim.Native.Nat.{◌+◌, ◌*◌, ◌/◌}
use mathlib.Core.Path.{◌≡◌}
use lib.ListN.{length}
use Rattle.base.specs.Lists.{stored_rows}
use Rattle.half_pel.specs.HalfPel.{half_block}
use Rattle.half_pel.proofs.half_block.Given as goal

abbrev pub invariant-loop-i : goal.invariant-loop-i
invariant-loop-i l =
    (l.from ≡ l.p / 2 * l.s.width + l.q / 2 + l._i * l.s.width) × (l.at ≡ 0 + l._i * 32)
    × (l.half ≡ stored_rows (half_block l.frame l.s.width l.p l.q) l.s.n l.initial.half 0 32 l._i) × (length l.half ≡ 1024)
