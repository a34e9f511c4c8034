-- `add_block`: after p turns the first p rows are there.
use Prim.Native.Nat.{◌+◌, ◌*◌}
use mathlib.Core.Path.{◌≡◌}
use Rattle.base.specs.Lists.{fill_to}
use Rattle.base.specs.Sum.{sum_to}
use Rattle.pruned_narrow.specs.Narrow.{row_more}
use Rattle.pruned_narrow.proofs.Whole.{zeros}
use Rattle.pruned_narrow.proofs.add_block.Given as goal

abbrev pub invariant-loop-p : goal.invariant-loop-p
invariant-loop-p l =
    (l.a ≡ l.l.at + l.at + l._p * (l.l.pitch * l.l.m)) × (l.o ≡ l.l.own + l.own + l._p * (l.l.n * l.l.m))
    × (l.part
    ≡ fill_to zeros 0
    (λ t. sum_to (λ r. row_more l.boxes (l.l.at + l.at + r * (l.l.pitch * l.l.m) + t) (l.l.own + l.own + r * (l.l.n * l.l.m)) l.l.m l.k) l._p) l.size)
