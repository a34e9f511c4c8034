-- `list_every`: after i turns the keys of the first i rows stand in front.
use Prim.Native.Nat.{◌+◌, ◌*◌, ◌≤◌, ◌<◌}
use mathlib.Core.Path.{refl}
use native.Mathlib.Omega.{arith}
use lib.ListN.{length}
use Rattle.base.specs.Index.{row_fits}
use Rattle.base.specs.Rows.{rowed_first, rowed_more}
use Rattle.pruned_list.proofs.Listed.{every_last}
use Rattle.pruned_list.proofs.list_every.Goals as goal
use Rattle.pruned_list.proofs.list_every.Goals.{At-loop-i}

-- row i has room
room : (l : At-loop-i) → l.loop-i.i < l.args.r.rows → let a = l.args in
    l.loop-i.i * a.r.columns + a.r.columns ≤ length a.keys.now
room l h = let r = l.args.r in omega (arith, row_fits l.loop-i.i r.rows r.columns h)

pub loop-i-init : goal.loop-i-init
loop-i-init c = rowed_first _ _ _

pub loop-i-preserved : goal.loop-i-preserved
loop-i-preserved c =
    let l = c.loop-i in
    rowed_more _ _ _ _ _ l.i _ l.invariant refl (rw l.invariant.long (room (goal.at.loop-i-preserved c).At-loop-i (omega arith))) c.list_row.ensures

pub returns : goal.returns
returns c =
    let l = c.loop-i in
    (refl, every_last _ _ _ l.i c.requires.1 (omega arith) l.invariant)
