-- `within_row`: none where the least exceeds the limit; else after j turns the number of those within the limit among the first j.
use Prim.Native.Nat.{◌+◌, ◌≤◌}
use mathlib.Core.Path.{◌≡◌}
use lib.Dec.{leb}
use lib.ListN.{get_or}
use Rattle.base.specs.Sum.{sum_to}
use Rattle.base.specs.Tests.{one}
use Rattle.pruned_sift.proofs.within_row.Given as goal

abbrev pub invariant-loop-j : goal.invariant-loop-j
invariant-loop-j l = (l.n ≤ l.j) × (l.n ≡ sum_to (λ k. one (leb (get_or l.numbers (l.from + k) 0) l.most)) l.j)
