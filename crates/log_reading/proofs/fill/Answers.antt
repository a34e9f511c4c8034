-- `fill`: what is left of the walk, stored from here on, makes the whole.
use Prim.Native.Nat.{◌+◌, ◌-◌}
use mathlib.Core.Path.{◌≡◌, sym, ◌∙◌}
use mathlib.Core.Bool.{true, false}
use mathlib.Core.List.{flat_map}
use native.Mathlib.Nat.{sub-zero}
use native.Mathlib.Omega.{arith}
use lib.ListN.{length}
use Rattle.log_reading.proofs.Turns.{store_room, stored, step_fits}
use Rattle.log_cursor.specs.Walk.{commands_from, walk}
use Rattle.log_reading.specs.Reading.{field_of}
use Rattle.put.specs.Put.{rest_first}
use Rattle.log_walks.proofs.Turns.{turn}
use Rattle.log_command.specs.Commands.{block_values}
use Rattle.log_reading.proofs.fill.Goals as goal

pub loop-call-init : goal.loop-call-init
unfolding walk
loop-call-init c = rw (sub-zero, c.start-cursor.ensures) (rest_first _ _ _)

pub store-at-requires : goal.store-at-requires
store-at-requires c =
    let l = c.loop-call in
    let s = c.step_at-s in
    let room = store_room (length c.args.log.now + 1 - l._call) _ l.cursor s.result (omega arith) s.ensures in
    (omega (arith, room, l.invariant, c.requires), rw s.ensures (step_fits _ l.cursor))

pub returns-then-is_refused : goal.returns-then-is_refused
unfolding field_of flat_map
returns-then-is_refused c =
    let l = c.loop-call in
    let s = c.step_at-s in
    let refused = sym c.if-is_refused.true ∙ c.is_refused.ensures in
    stored (turn block_values _ _ l.cursor s.result true (omega arith) s.ensures refused l.invariant c.store-at.ensures) c.requires

pub loop-call-preserved : goal.loop-call-preserved
unfolding field_of
loop-call-preserved c =
    let l = c.loop-call in
    let s = c.step_at-s in
    let n = length c.args.log.now + 1 in
    let less : n - l._call - 1 ≡ n - (l._call + 1) = omega arith in
    let goes_on = sym c.if-is_refused.false ∙ c.is_refused.ensures in
    rw less at (turn block_values _ _ l.cursor s.result false (omega arith) s.ensures goes_on l.invariant c.store-at.ensures)

pub returns : goal.returns
unfolding commands_from field_of flat_map
returns c =
    let none : length c.args.log.now + 1 - c.loop-call._call ≡ 0 = omega arith in
    stored (rw none at c.loop-call.invariant) c.requires
