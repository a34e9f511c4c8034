-- `join`: count by count; each sum is small.
use Prim.Native.Nat.{ℕ, ◌+◌}
use mathlib.Core.Path.{◌≡◌}
use lib.ListN.{get_or}
use Rattle.base.specs.Lists.{fill_to}
use Rattle.search.specs.declared.SearchResult.{SearchResult}
use Rattle.field_block.specs.declared.Total.{Total}
use Rattle.field_block.proofs.join.Given as goal

abbrev pub sum : Total → SearchResult → ℕ → ℕ
sum s f i = get_or s.counts i 0 + get_or f.counts i 0

abbrev pub invariant-loop-i : goal.invariant-loop-i
invariant-loop-i l = l.counts ≡ fill_to l.s.counts 0 (sum l.s l.f) l.i
