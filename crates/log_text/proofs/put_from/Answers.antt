-- `put_from`: what is still to be put, put from here on, makes the whole text; a turn puts a line of it.
use Prim.Native.Nat.{◌+◌, ◌-◌}
use mathlib.Core.Path.{◌≡◌, sym, ◌∙◌}
use mathlib.Core.Bool.{true, false}
use native.Mathlib.Omega.{arith}
use mathlib.Core.List.{flat_map}
use Rattle.put.specs.Put.{rest_last}
use Rattle.log_cursor.specs.Walk.{commands_from}
use Rattle.log_walks.proofs.Turns.{turn}
use Rattle.log_line.specs.Line.{line_of}
use Rattle.log_text.proofs.put_from.Goals as goal

pub returns-then-is_refused : goal.returns-then-is_refused
unfolding flat_map
returns-then-is_refused c =
    let l = c.loop-call in
    let s = c.step_at-s in
    let refused = sym c.if-is_refused.true ∙ c.is_refused.ensures in
    rest_last (turn line_of _ _ l.cursor s.result true (omega arith) s.ensures refused l.invariant.1 c.put_line-at.ensures.0)

pub loop-call-preserved : goal.loop-call-preserved
loop-call-preserved c =
    let l = c.loop-call in
    let s = c.step_at-s in
    let w = c.put_line-at.ensures in
    let less : c.args.most - l._call - 1 ≡ c.args.most - (l._call + 1) = omega arith in
    let goes_on = sym c.if-is_refused.false ∙ c.is_refused.ensures in
    (omega (arith, w.1, l.invariant.0), rw less at (turn line_of _ _ l.cursor s.result false (omega arith) s.ensures goes_on l.invariant.1 w.0))

pub returns : goal.returns
unfolding commands_from flat_map
returns c =
    let none : c.args.most - c.loop-call._call ≡ 0 = omega arith in
    rest_last (rw none at c.loop-call.invariant.1)
