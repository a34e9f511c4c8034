-- `list_row`: after j turns the keys of those within the limit among the first j are stored.
use Prim.Native.Nat.{ℕ, ◌+◌, ◌*◌}
use mathlib.Core.List.{List}
use Rattle.base.specs.Lists.{list_to}
use Rattle.frame.specs.declared.Region.{Region}
use Rattle.pruned_sift.specs.Laid.{within, Added}
use Rattle.pruned_sift.proofs.list_row.Given as goal

-- the first j spots of row i
abbrev pub spotsTo : Region → ℕ → ℕ → List ℕ
spotsTo r i j = list_to (λ k. 64 * (r.top + i) + (r.left + k)) j

abbrev pub invariant-loop-j : goal.invariant-loop-j
invariant-loop-j l =
    Added (within l.numbers l.pitch l.r l.most (spotsTo l.r l.i l.j)) l.initial.keys l.at l.keys l.n
