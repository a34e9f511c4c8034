-- `all_passes`: the passes left lead to where all lead.
use Prim.Native.Nat.{◌+◌, ◌-◌}
use mathlib.Core.Path.{◌≡◌}
use native.Mathlib.Omega.{arith}
use Rattle.cross.proofs.Passes.{passing_first, passing_more, passing_last}
use Rattle.cross.proofs.all_passes.Goals as goal

pub loop-pass-init : goal.loop-pass-init
loop-pass-init c =
    let q = c.requires in
    rw c.log2_window-pass-end.ensures (passing_first _ _ _ q.1)

pub loop-pass-preserved : goal.loop-pass-preserved
loop-pass-preserved c =
    let l = c.loop-pass in
    let n = c.log2_window-pass-end.result in
    let e : n - l._pass - 1 ≡ n - (l._pass + 1) = omega arith in
    rw e at (passing_more _ _ _ _ _ _ l.invariant _ (omega arith) c.pass_at-best.ensures)

pub returns : goal.returns
returns c = passing_last _ _ _ _ _ _ c.loop-pass.invariant (omega arith)
