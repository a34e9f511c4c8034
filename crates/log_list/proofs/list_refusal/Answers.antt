-- `list_refusal`: the head's refusal, then the list's length. An accepted head has at most 1,048,576 blocks, so the product does not wrap.
use mathlib.Core.Path.{sym, ◌∙◌}
use native.Mathlib.Omega.{arith}
use borrow.Author.Tests.{lt-leb, le-leb}
use Rattle.refusals.specs.Refusals.{first_refusal_none}
use Rattle.refusals.specs.Numbers.{handed_first}
use Rattle.log_list.specs.Listed.{list_refusal}
use Rattle.log_list.proofs.list_refusal.Goals as goal

pub returns-in_err-head_refusal : goal.returns-in_err-head_refusal
unfolding list_refusal
returns-in_err-head_refusal c = handed_first _ _ _ c.from_residual.ensures.1 c.in_err-head_refusal.ensures

pub head_blocks-requires : goal.head_blocks-requires
head_blocks-requires c = sym c.in_ok-head_refusal.ensures

pub overflow_mul-head_blocks : goal.overflow_mul-head_blocks
overflow_mul-head_blocks c = omega arith

pub returns-then-list-head_blocks : goal.returns-then-list-head_blocks
unfolding list_refusal
returns-then-list-head_blocks c =
    sym (first_refusal_none _ _ (sym c.in_ok-head_refusal.ensures) ∙ rw (← c.head_blocks.ensures.0, lt-leb _ _ c.if-list-head_blocks.true))

pub returns : goal.returns
unfolding list_refusal
returns c =
    sym (first_refusal_none _ _ (sym c.in_ok-head_refusal.ensures) ∙ rw (← c.head_blocks.ensures.0, le-leb _ _ c.if-list-head_blocks.false))
