-- `still_due`: a byte is there, so it is due or not.
use mathlib.Core.Path.{sym, ◌∙◌}
use native.Mathlib.Omega.{arith}
use borrow.Author.Tests.{lt-ltb, le-ltb}
use Rattle.log_cursor.specs.Step.{judged_no, judged_whole}
use Rattle.log_cursor.proofs.still_due.Goals as goal

pub returns-then-blocks-all : goal.returns-then-blocks-all
returns-then-blocks-all c =
    c.refused.ensures ∙ sym (judged_no _ _ _ _ _ (le-ltb _ _ (rw c.requires.1 at c.if-blocks-all.true)))

pub returns : goal.returns
returns c = sym (judged_whole _ _ _ _ _ (lt-ltb _ _ (rw c.requires.1 at c.if-blocks-all.false)) (omega arith))
