-- `end_due`: due once the grid is full, then whole, then the number of blocks.
use mathlib.Core.Path.{sym, ◌∙◌}
use native.Mathlib.Omega.{arith}
use borrow.Author.Rules.{rules}
use borrow.Author.Tests.{lt-leb, le-leb}
use Rattle.std.specs.Prelude.{◌<◌, ◌+◌, length}
use Rattle.log_head.specs.Heads.{head_blocks}
use Rattle.log_cursor.specs.Step.{judged_no, judged_short, judged_whole, end_no, end_yes}
use Rattle.log_cursor.proofs.end_due.Goals as goal

pub returns-then-blocks-all : goal.returns-then-blocks-all
returns-then-blocks-all c =
    rw (judged_no _ _ _ _ _ (lt-leb (head_blocks c.args.head) c.args.blocks (omega arith))) (search rules)

pub returns-then-left-lt-END_SIZE : goal.returns-then-left-lt-END_SIZE
returns-then-left-lt-END_SIZE c =
    let short : length c.args.log.now < c.args.at + 5 = omega arith in
    rw (judged_short _ _ _ _ _ (le-leb (head_blocks c.args.head) c.args.blocks (omega arith)) short) (search rules)

pub returns-then-four-all : goal.returns-then-four-all
returns-then-four-all c =
    c.refused-then-four-all.ensures
    ∙ sym
    (judged_whole _ _ _ _ _ (le-leb _ _ (rw c.requires.1 at c.if-blocks-all.false)) (omega arith)
    ∙ end_no _ _ _ (λ e. c.if-four-all.true (c.four.ensures.0 ∙ e ∙ sym c.requires.1)))

pub returns : goal.returns
returns c =
    let e = sym c.four.ensures.0 ∙ c.if-four-all.false ∙ c.requires.1 in
    rw c.requires.1 (sym (judged_whole _ _ _ _ _ (le-leb _ _ (rw c.requires.1 at c.if-blocks-all.false)) (omega arith) ∙ end_yes _ _ _ e))
