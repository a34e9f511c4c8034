-- `bound_of_all`: the nearest's distortion, at a resolution below N.
use Prim.Native.Nat.{◌+◌, ◌≤◌, min}
use mathlib.Core.Path.{◌≡◌, sym, ap, ◌∙◌}
use native.Mathlib.Omega.{arith}
use Rattle.refusals.specs.Refusals.{block_size}
use Rattle.reach.proofs.Candidates.{ready_standing}
use Rattle.pruned_rule.specs.Spots.{vector_on, choice_of}
use Rattle.pruned_list.specs.Listed.{SpotIn, distortion_to}
use Rattle.pruned_sift.specs.Laid.{Laid}
use Rattle.pruned_sift.proofs.Distances.{laid}
use Rattle.pruned.specs.Flow.{dist_of}
use Rattle.pruned.proofs.Flow.{bound_same, bound_lowered}
use Rattle.pruned.proofs.Steps.{nearest_all}
use Rattle.pruned.proofs.bound_of_all.Goals as goal
use Rattle.pruned.proofs.bound_of_all.Goals.{After-spot_of, Start}

small : (s : Start) → s.args.matching.block.setting.n ≤ 32
small s = (block_size s.args.matching.block.setting.n s.args.matching.ready.placed.paired.allowed).most

laid_in : (s : Start) → Laid s.args.numbers.now (s.args.matching.block.setting.n + 32) s.args.r
laid_in s =
    let p = s.requires in
    rw p.0 (laid s.args.matching.block (ready_standing _ _ _ s.args.matching.ready) s.args.matching.block.setting.n (let small : s.args.matching.block.setting.n ≤ 32 = (block_size s.args.matching.block.setting.n s.args.matching.ready.placed.paired.allowed).most in small) s.args.numbers.now p.1)

pub nearest-key-requires : goal.nearest-key-requires
nearest-key-requires c = (laid_in (goal.at.nearest-key-requires c).Start, c.requires.3 c.if-m-n.true)

-- the nearest of all
near : (c : After-spot_of) → let a = c.args in
    SpotIn a.matching.block c.spot_of.result × (vector_on c.spot_of.result ≡ choice_of a.matching.block (dist_of a.matching.older.now a.matching.newer.now a.matching.block a.m))
near c =
    let p = c.requires in
    rw c.spot_of.ensures
    (nearest_all c.args.matching.block (ready_standing _ _ _ c.args.matching.ready) (dist_of c.args.matching.older.now c.args.matching.newer.now c.args.matching.block c.args.m) c.args.numbers.now p.2 c.args.r p.0 _ c.nearest-key.ensures)

pub lowered-requires : goal.lowered-requires
lowered-requires c = (near c).0

pub returns-then-m-n : goal.returns-then-m-n
returns-then-m-n c =
    let a = c.args in
    c.lowered.ensures
    ∙ ap (λ v. min a.e (distortion_to a.matching.older.now a.matching.newer.now a.matching.block v)) (near (goal.at.returns-then-m-n c).After-spot_of).1
    ∙ sym (bound_lowered a.matching.older.now a.matching.newer.now a.matching.block a.m _ a.e c.if-m-n.true)

pub returns : goal.returns
returns c =
    let a = c.args in
    sym (bound_same a.matching.older.now a.matching.newer.now a.matching.block a.m _ a.e (omega (arith, c.if-m-n.false)))
