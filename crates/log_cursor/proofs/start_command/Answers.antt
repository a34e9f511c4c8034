-- `start_command`: the match is the definition's chain of tests.
use mathlib.Core.Logic.{⊎_elim}
use native.Mathlib.Omega.{arith}
use Rattle.std.proofs.Math.ListN.{get_or}
use borrow.Author.Rules.{rules}
use borrow.Author.Tests.{lt-leb, le-leb}
use Rattle.log_cursor.specs.Step.{start_command, one_of, none_of}
use Rattle.log_cursor.proofs.start_command.Goals as goal

pub returns-then-log-at : goal.returns-then-log-at
unfolding start_command
returns-then-log-at c = simp (le-leb _ _ c.if-log-at.true) c.refused.ensures

pub head_due-requires : goal.head_due-requires
head_due-requires c = (omega (arith, c.if-log-at.false), ⊎_elim (λ e. rw e (omega arith)) (λ e. rw e (omega arith)) c.in-1.is)

pub returns-in-0 : goal.returns-in-0
unfolding start_command
returns-in-0 c = simp (lt-leb _ _ c.if-log-at.false, c.in-0.is) c.refused-in-0.ensures

pub returns-in-1 : goal.returns-in-1
unfolding start_command
returns-in-1 c = simp (lt-leb _ _ c.if-log-at.false, one_of _ 1 6 c.in-1.is) c.head_due.ensures

pub returns-in-2-to-5 : goal.returns-in-2-to-5
unfolding start_command
returns-in-2-to-5 c =
    simp (lt-leb _ _ c.if-log-at.false, none_of (get_or c.args.log.now c.args.at 0) 1 6 (search rules)) c.refused-in-2-to-5.ensures

pub returns-in-7-to-255 : goal.returns-in-7-to-255
unfolding start_command
returns-in-7-to-255 c =
    simp (lt-leb _ _ c.if-log-at.false, none_of (get_or c.args.log.now c.args.at 0) 1 6 (search rules)) c.refused-in-7-to-255.ensures
