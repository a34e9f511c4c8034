-- `walk_end`: how what is left of the walk ends is how the whole ends.
use Prim.Native.Nat.{◌+◌, ◌-◌}
use mathlib.Core.Path.{◌≡◌}
use native.Mathlib.Nat.{sub-zero}
use native.Mathlib.Omega.{arith}
use lib.ListN.{length}
use Rattle.log_cursor.specs.Walk.{commands_from, last_of}
use Rattle.log_reading.proofs.Turns.{end_first, end_turn}
use Rattle.log_reading.proofs.walk_end.Goals as goal

pub loop-call-init : goal.loop-call-init
loop-call-init c = rw (sub-zero, c.start-cursor.ensures) (end_first _ _)

pub returns-then-is_refused : goal.returns-then-is_refused
unfolding last_of
returns-then-is_refused c =
    let l = c.loop-call in
    let s = c.step_at-s in
    let r = c.is_refused in
    rw c.if-is_refused.true at (end_turn _ _ l.cursor s.result r.result (omega arith) s.ensures r.ensures _ _ l.invariant)

pub loop-call-preserved : goal.loop-call-preserved
loop-call-preserved c =
    let l = c.loop-call in
    let s = c.step_at-s in
    let r = c.is_refused in
    let n = length c.args.log.now + 1 in
    let less : n - l._call - 1 ≡ n - (l._call + 1) = omega arith in
    rw (c.if-is_refused.false, less) at (end_turn _ _ l.cursor s.result r.result (omega arith) s.ensures r.ensures _ _ l.invariant)

pub returns : goal.returns
unfolding commands_from last_of
returns c =
    let none : length c.args.log.now + 1 - c.loop-call._call ≡ 0 = omega arith in
    rw none at c.loop-call.invariant
