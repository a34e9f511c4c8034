-- `put_stills`: a turn puts a line of those that are still to be put.
use Prim.Native.Nat.{suc, ◌+◌, ◌-◌}
use mathlib.Core.Path.{◌≡◌}
use mathlib.Core.List.{flat_map}
use native.Mathlib.Omega.{arith}
use Rattle.put.specs.Put.{rest_more, rest_last}
use Rattle.log_text.proofs.put_stills.Goals as goal

pub loop-still-preserved : goal.loop-still-preserved
unfolding flat_map
loop-still-preserved c =
    let w = c.put_still-at.ensures in
    let l = c.loop-still in
    let next : c.args.n - l._still ≡ suc (c.args.n - (l._still + 1)) = omega arith in
    (omega (arith, w.1, l.invariant.0), rest_more (rw next at l.invariant.1) w.0)

pub returns : goal.returns
unfolding flat_map
returns c =
    let l = c.loop-still in
    let none : c.args.n - l._still ≡ 0 = omega arith in
    (rest_last (rw none at l.invariant.1), omega (arith, l.invariant.0))
