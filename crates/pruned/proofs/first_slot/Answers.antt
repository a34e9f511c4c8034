-- `first_slot`: N has log2 N - 1 resolutions after it.
use Prim.Native.Nat.{ℕ, ◌-◌, ◌≤◌}
use mathlib.Core.Path.{◌≡◌, ap}
use native.Mathlib.Omega.{arith}
use lib.Dec.{T}
use lib.ListN.{length}
use Rattle.frame.specs.Pictures.{last_count}
use Rattle.refusals.specs.Cross.{log2}
use Rattle.refusals.specs.Refusals.{block_size_ok, block_size}
use Rattle.pruned_rule.specs.Prune.{resolutions}
use Rattle.pruned_rule.proofs.Search.{resolutions_many}
use Rattle.pruned.specs.Flow.{first_slot}
use Rattle.pruned.proofs.first_slot.Goals as goal

few : (n : ℕ) → T (block_size_ok n) → log2 n ≤ last_count
few n t = let s = block_size n t in omega (arith, s.log, s.few)

slot : (n : ℕ) → T (block_size_ok n) → last_count - log2 n ≡ first_slot n
slot n t =
    let s = block_size n t in
    omega (arith, s.log, ap (λ k. length (resolutions k)) s.power, resolutions_many s.doublings)

pub overflow_sub-result : goal.overflow_sub-result
overflow_sub-result c = omega (arith, c.log2_window.ensures, few _ c.requires)

pub returns : goal.returns
returns c = rw c.log2_window.ensures (slot _ c.requires)
