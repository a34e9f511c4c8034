-- `first_wrong`: what is left, searched from here, answers for the whole.
use Prim.Native.Nat.{◌-◌}
use mathlib.Core.Path.{◌≡◌}
use Rattle.base.specs.FirstWrong.{first_wrong}
use Rattle.log_list.specs.Listed.{listed_ok}
use Rattle.log_list.proofs.first_wrong.Given as goal

abbrev pub invariant-loop-k : goal.invariant-loop-k
invariant-loop-k l = first_wrong (listed_ok l.head l.list) l.k (l.n - l.k) ≡ first_wrong (listed_ok l.head l.list) 0 l.n
