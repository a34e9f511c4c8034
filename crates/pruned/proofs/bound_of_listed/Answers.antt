-- `bound_of_listed`: the nearest's distortion, at a resolution below N.
use Prim.Native.Nat.{ℕ, min}
use mathlib.Core.Path.{◌≡◌, sym, ap, ◌∙◌}
use native.Mathlib.Omega.{arith}
use lib.ListN.{length}
use Rattle.pruned_rule.specs.Spots.{vector_on}
use Rattle.pruned_list.specs.Listed.{spot_of, nearest_key, distortion_to}
use Rattle.pruned.proofs.Flow.{bound_same, bound_lowered}
use Rattle.pruned.proofs.bound_of_listed.Goals as goal
use Rattle.pruned.proofs.bound_of_listed.Goals.{After-spot_of}

pub nearest-key-requires : goal.nearest-key-requires
nearest-key-requires c = c.requires.0

-- the nearest's spot
spot_is : (c : After-spot_of) → let a = c.args in
    c.spot_of.result ≡ spot_of (nearest_key a.keys.now (length a.keys.now))
spot_is c = c.spot_of.ensures ∙ ap (λ (k : ℕ). spot_of k) c.nearest-key.ensures

pub lowered-requires : goal.lowered-requires
lowered-requires c = rw (spot_is c) c.requires.1

pub returns-then-m-n : goal.returns-then-m-n
returns-then-m-n c =
    let a = c.args in
    c.lowered.ensures
    ∙ ap (λ (t : ℕ). min a.e (distortion_to a.matching.older.now a.matching.newer.now a.matching.block (vector_on t))) (spot_is (goal.at.returns-then-m-n c).After-spot_of)
    ∙ sym (bound_lowered a.matching.older.now a.matching.newer.now a.matching.block a.m _ a.e c.if-m-n.true)

pub returns : goal.returns
returns c =
    let a = c.args in
    sym (bound_same a.matching.older.now a.matching.newer.now a.matching.block a.m _ a.e (omega (arith, c.if-m-n.false)))
