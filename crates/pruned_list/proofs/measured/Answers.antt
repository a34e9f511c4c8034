-- `measured`: the spot is a candidate's, so its older block stands inside and can be compared.
use Prim.Native.Nat.{◌+◌, ◌/◌, ◌%◌, ◌≤◌}
use native.Mathlib.Omega.{arith}
use Rattle.reach.proofs.Candidates.{older-at}
use Rattle.distortion.specs.Blocks.{distortion}
use Rattle.pruned_list.proofs.Measuring.{spot_behind, spot_block}
use Rattle.pruned_list.proofs.measured.Goals as goal
use Rattle.pruned_list.proofs.measured.Goals.{Start}

-- 16 at least, so the subtractions do not pass 0
behind : (s : Start) → let a = s.args in (16 ≤ a.matching.block.y + a.spot / 64) × (16 ≤ a.matching.block.x + a.spot % 64)
behind s = spot_behind _ _ _ s.args.matching.ready s.args.spot s.requires

pub overflow_sub-row : goal.overflow_sub-row
overflow_sub-row c = omega (arith, behind (goal.at.overflow_sub-row c).Start)

pub overflow_sub-column : goal.overflow_sub-column
overflow_sub-column c = omega (arith, behind (goal.at.overflow_sub-column c).Start)

pub block_up_to-requires : goal.block_up_to-requires
block_up_to-requires c = spot_block _ _ _ c.args.matching.ready c.args.spot c.requires

pub returns : goal.returns
unfolding distortion
returns c =
    let b = c.args.matching.block in
    let h = behind (goal.at.returns c).Start in
    let o = older-at b.y b.x (c.args.spot / 64) (c.args.spot % 64) h.0 h.1 in
    rw (o.0, o.1) c.block_up_to.ensures
