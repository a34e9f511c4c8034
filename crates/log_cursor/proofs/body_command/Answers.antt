-- `body_command`: the match is the definition's chain of tests.
use mathlib.Core.Logic.{⊎_elim}
use native.Mathlib.Omega.{arith}
use Rattle.std.proofs.Math.ListN.{get_or}
use borrow.Author.Rules.{rules}
use borrow.Author.Tests.{lt-leb, le-leb, ne_eqb}
use Rattle.log_cursor.specs.Step.{body_command, one_of, none_of}
use Rattle.log_cursor.proofs.body_command.Goals as goal

pub returns-then-log-at : goal.returns-then-log-at
unfolding body_command
returns-then-log-at c = simp (le-leb _ _ c.if-log-at.true) c.refused.ensures

pub block_due-requires : goal.block_due-requires
block_due-requires c =
    (omega (arith, c.if-log-at.false), c.requires.1, c.requires.2, ⊎_elim (λ c. rw c (omega arith)) (λ c. rw c (omega arith)) c.in-2.is)

pub returns-in-2 : goal.returns-in-2
unfolding body_command
returns-in-2 c = simp (lt-leb _ _ c.if-log-at.false, one_of _ 2 5 c.in-2.is) c.block_due.ensures

pub returns-in-3 : goal.returns-in-3
unfolding body_command
returns-in-3 c = simp (lt-leb _ _ c.if-log-at.false, c.in-3.is) (search rules)

pub returns-in-4 : goal.returns-in-4
unfolding body_command
returns-in-4 c = simp (lt-leb _ _ c.if-log-at.false, c.in-4.is) (search rules)

pub returns-in-6 : goal.returns-in-6
unfolding body_command
returns-in-6 c = simp (lt-leb _ _ c.if-log-at.false, c.in-6.is) c.refused-in-6.ensures

pub returns-in-0 : goal.returns-in-0
unfolding body_command
returns-in-0 c =
    let byte = get_or c.args.log.now c.args.at 0 in
    simp (lt-leb _ _ c.if-log-at.false, none_of byte 2 5 (search rules), ne_eqb byte 3 (λ e. omega arith), ne_eqb byte 4 (λ e. omega arith)) c.refused-in-0.ensures

pub returns-in-7-to-255 : goal.returns-in-7-to-255
unfolding body_command
returns-in-7-to-255 c =
    let byte = get_or c.args.log.now c.args.at 0 in
    simp (lt-leb _ _ c.if-log-at.false, none_of byte 2 5 (search rules), ne_eqb byte 3 (λ e. omega arith), ne_eqb byte 4 (λ e. omega arith)) c.refused-in-7-to-255.ensures
