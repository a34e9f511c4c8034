-- `block_due`: due until the grid is full, then whole.
use mathlib.Core.Path.{sym, ◌∙◌}
use native.Mathlib.Omega.{arith}
use borrow.Author.Tests.{lt-ltb, le-ltb}
use Rattle.log_cursor.specs.Step.{judged_no, judged_short, judged_whole}
use Rattle.log_cursor.proofs.block_due.Goals as goal

pub returns-then-blocks-all : goal.returns-then-blocks-all
returns-then-blocks-all c =
    c.refused.ensures ∙ sym (judged_no _ _ _ _ _ (le-ltb _ _ (rw c.requires.2 at c.if-blocks-all.true)))

pub returns-then-log-at : goal.returns-then-log-at
returns-then-log-at c =
    c.refused-then-log-at.ensures
    ∙ sym (judged_short _ _ _ _ _ (lt-ltb _ _ (rw c.requires.2 at c.if-blocks-all.false)) (omega (arith, c.size_by.ensures)))

pub block_taken-requires : goal.block_taken-requires
block_taken-requires c =
    record {
      inside = (omega (arith, c.size_by.ensures, c.requires.3), omega (arith, c.size_by.ensures));
      due = (c.requires.1, omega (arith, c.requires.2));
    }

pub returns : goal.returns
returns c =
    c.block_taken.ensures
    ∙ sym (judged_whole _ _ _ _ _ (lt-ltb _ _ (rw c.requires.2 at c.if-blocks-all.false)) (omega (arith, c.size_by.ensures)))
