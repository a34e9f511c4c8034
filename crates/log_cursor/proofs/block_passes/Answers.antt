-- `block_passes`: the rules of 16, one by one.
use Prim.Native.Nat.{◌≤◌}
use mathlib.Core.Path.{◌≡◌, ap}
use native.Mathlib.Omega.{arith}
use lib.IntN.{pos}
use mathlib.Core.Bool.{not}
use mir.Syntax.{w32}
use mir.Val.{to_z}
use mir.Facts.{to_z-of_z, to_z_pos}
use Rattle.base.specs.Tests.{told}
use Rattle.log_head.specs.Heads.{largest_logged, entry_ok, entry}
use Rattle.log_cursor.proofs.block_passes.Goals as goal
use Rattle.log_cursor.proofs.block_passes.Goals.{After-block_ok, Else-not-block_ok}

-- what `block_ok` answers
answered : (c : After-block_ok) → let a = c.args in c.block_ok.result ≡ entry_ok a.head a.k a.dy a.dx (pos a.distortion)
answered c = rw (to_z-of_z c.ranges.dy, to_z-of_z c.ranges.dx) at c.block_ok.ensures

small : (c : Else-not-block_ok) → c.args.distortion ≤ largest_logged
small c =
    let a = c.args in
    (entry a.head c.requires.0 a.k a.dy a.dx (pos a.distortion) (told (let answered : let a = c.args in c.block_ok.result ≡ entry_ok a.head a.k a.dy a.dx (pos a.distortion) = rw (to_z-of_z c.ranges.dy, to_z-of_z c.ranges.dx) at c.block_ok.ensures in answered) c.if-not-block_ok.false)).most

pub returns-then-not-block_ok : goal.returns-then-not-block_ok
returns-then-not-block_ok c = rw (told (answered (goal.at.returns-then-not-block_ok c).After-block_ok) c.if-not-block_ok.true)

pub overflow_cast-distortion : goal.overflow_cast-distortion
overflow_cast-distortion c = omega (arith, small c)

pub returns : goal.returns
returns c =
    let p : to_z w32 c.args.distortion ≡ pos c.args.distortion = to_z_pos w32 {n = c.args.distortion} (omega (arith, small (goal.at.returns c).Else-not-block_ok)) in
    rw (told (answered (goal.at.returns c).After-block_ok) c.if-not-block_ok.false) (ap not (rw (to_z-of_z c.ranges.dy, to_z-of_z c.ranges.dx, p) at c.is_still.ensures))
