-- `step_at`: the place first, then the phase, then the numbers of a walk among the blocks.
use mathlib.Core.Path.{sym, ◌∙◌}
use native.Mathlib.Omega.{arith}
use borrow.Author.Tests.{lt-ltb, le-ltb}
use Rattle.log_cursor.specs.Step.{step_at, start_within, end_within}
use Rattle.log_cursor.proofs.step_at.Goals as goal

pub returns-then-log-at : goal.returns-then-log-at
unfolding step_at
returns-then-log-at c = simp (lt-ltb _ _ c.if-log-at.true) c.refused_step.ensures

pub step_of-requires : goal.step_of-requires
step_of-requires c =
    rw c.start_command.ensures (omega (arith, (start_within {log = c.args.log.now} c.if-log-at.false).size))

pub body_step-requires : goal.body_step-requires
body_step-requires c = (c.if-log-at.false, sym c.standing_ok.ensures ∙ c.if-standing_ok.true)

pub step_of-requires-in-Ended : goal.step_of-requires-in-Ended
step_of-requires-in-Ended c =
    rw c.after_end.ensures (omega (arith, (end_within {log = c.args.log.now} c.if-log-at.false).size))

pub returns-in-Start : goal.returns-in-Start
unfolding step_at
returns-in-Start c =
    simp (le-ltb _ _ c.if-log-at.false, c.in-Start.is, ← c.start_command.ensures) c.step_of.ensures

pub returns-then-standing_ok : goal.returns-then-standing_ok
unfolding step_at
returns-then-standing_ok c =
    simp (le-ltb _ _ c.if-log-at.false, c.in-Body.is, sym c.standing_ok.ensures, c.if-standing_ok.true) c.body_step.ensures

pub returns-else-standing_ok : goal.returns-else-standing_ok
unfolding step_at
returns-else-standing_ok c =
    simp (le-ltb _ _ c.if-log-at.false, c.in-Body.is, sym c.standing_ok.ensures, c.if-standing_ok.false) c.refused_step-else-standing_ok.ensures

pub returns-in-Ended : goal.returns-in-Ended
unfolding step_at
returns-in-Ended c =
    simp (le-ltb _ _ c.if-log-at.false, c.in-Ended.is, ← c.after_end.ensures) c.step_of-in-Ended.ensures

pub returns-in-Over : goal.returns-in-Over
unfolding step_at
returns-in-Over c = simp (le-ltb _ _ c.if-log-at.false, c.in-Over.is) c.refused_step-in-Over.ensures
