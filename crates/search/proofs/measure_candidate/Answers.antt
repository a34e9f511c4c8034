-- `measure_candidate`: the older block is the one that the vector names, and it lies inside.
use mathlib.Core.Path.{◌≡◌, sym, ap, ◌∙◌}
use lib.Dec.{T}
use mir.Facts.{to_z-of_z}
use Rattle.order.specs.Vectors.{vec}
use Rattle.base.specs.Tests.{T_true}
use Rattle.frame.specs.Candidates.{candidate, older_at, older_row, older_column, candidate_older, older_is, older_no}
use Rattle.distortion.specs.Blocks.{distortion}
use Rattle.search.specs.Target.{target_of, of_candidate, measure_candidate}
use Rattle.search.proofs.measure_candidate.Goals as goal
use Rattle.search.proofs.measure_candidate.Goals.{After-block_up_to, After-older_at, In-Some}

-- what the call for the older block answers
found : (o : After-older_at) →
    o.older_at.result ≡ older_at o.args.matching.block.setting o.args.matching.block.w o.args.matching.block.y o.args.matching.block.x (vec o.args.dy o.args.dx)
found o =
    rw (to_z-of_z o.ranges.dy, to_z-of_z o.ranges.dx) at o.older_at.ensures

at-candidate : (k : In-Some) →
    T (candidate k.args.matching.block.setting k.args.matching.block.w k.args.matching.block.y k.args.matching.block.x (vec k.args.dy k.args.dx))
    × (k.in-Some.r ≡ older_row k.args.matching.block.y (vec k.args.dy k.args.dx))
    × (k.in-Some.c ≡ older_column k.args.matching.block.x (vec k.args.dy k.args.dx))
at-candidate k = older_is _ _ _ _ _ _ _ (sym (let found : k.older_at.result ≡ older_at k.args.matching.block.setting k.args.matching.block.w k.args.matching.block.y k.args.matching.block.x (vec k.args.dy k.args.dx) = rw (to_z-of_z k.ranges.dy, to_z-of_z k.ranges.dx) at k.older_at.ensures in found) ∙ k.in-Some.is)

pub returns-in_default : goal.returns-in_default
unfolding measure_candidate
returns-in_default c =
    rw (older_no _ _ _ _ _ (sym (found (goal.at.returns-in_default c).After-older_at) ∙ c.in_default.is))

pub block_up_to-requires : goal.block_up_to-requires
block_up_to-requires c =
    let h = at-candidate (goal.at.block_up_to-requires c).In-Some in
    let i = candidate_older c.args.matching.block.setting _ c.args.matching.block.y c.args.matching.block.x (vec c.args.dy c.args.dx) h.0 in
    record { placed = c.args.matching.ready.placed; down = rw h.1 i.down; across = rw h.2 i.across }

-- the candidate's answer is what its block answers
answer : (u : After-block_up_to) →
    measure_candidate (target_of u.args.matching.older.now u.args.matching.newer.now u.args.matching.block) u.args.ceiling (vec u.args.dy u.args.dx) ≡ of_candidate u.block_up_to.result
unfolding measure_candidate distortion
answer u =
    let h = (let at-candidate : T (candidate u.args.matching.block.setting u.args.matching.block.w u.args.matching.block.y u.args.matching.block.x (vec u.args.dy u.args.dx))
    × (u.in-Some.r ≡ older_row u.args.matching.block.y (vec u.args.dy u.args.dx))
    × (u.in-Some.c ≡ older_column u.args.matching.block.x (vec u.args.dy u.args.dx)) = older_is _ _ _ _ _ _ _ (sym (let found : u.older_at.result ≡ older_at u.args.matching.block.setting u.args.matching.block.w u.args.matching.block.y u.args.matching.block.x (vec u.args.dy u.args.dx) = rw (to_z-of_z u.ranges.dy, to_z-of_z u.ranges.dx) at u.older_at.ensures in found) ∙ u.in-Some.is) in at-candidate) in
    let yes = T_true (candidate u.args.matching.block.setting u.args.matching.block.w u.args.matching.block.y u.args.matching.block.x (vec u.args.dy u.args.dx)) h.0 in
    rw (u.block_up_to.ensures, h.1, h.2, yes)

pub returns-in_default-block_up_to : goal.returns-in_default-block_up_to
unfolding of_candidate
returns-in_default-block_up_to c = sym (answer (goal.at.returns-in_default-block_up_to c).After-block_up_to ∙ ap of_candidate c.in_default-block_up_to.is)

pub returns : goal.returns
unfolding of_candidate
returns c = sym (answer (goal.at.returns c).After-block_up_to ∙ ap of_candidate c.in-Some-block_up_to.is)
