-- `first_wrong`: what is left, searched from here, answers for the whole.
use mathlib.Core.Path.{◌≡◌, sym, ◌∙◌}
use native.Mathlib.Omega.{arith}
use native.Mathlib.Nat.{sub-zero}
use Rattle.base.specs.Tests.{told}
use Rattle.base.specs.FirstWrong.{wrong_more, wrong_here, wrong_last}
use Rattle.log_list.proofs.first_wrong.Goals as goal

pub head_blocks-n-requires : goal.head_blocks-n-requires
head_blocks-n-requires c = c.requires.fine

pub loop-k-init : goal.loop-k-init
loop-k-init c = rw sub-zero

pub listed_ok-requires : goal.listed_ok-requires
listed_ok-requires c = (c.requires, omega (arith, c.head_blocks-n.ensures.0))

pub returns-then-not-listed_ok : goal.returns-then-not-listed_ok
returns-then-not-listed_ok c =
    (rw (← c.head_blocks-n.ensures.0) (sym (wrong_here _ _ _ (omega arith) (told c.listed_ok.ensures c.if-not-listed_ok.true)) ∙ c.loop-k.invariant), rw (← c.head_blocks-n.ensures.0) (omega arith))

pub loop-k-preserved : goal.loop-k-preserved
loop-k-preserved c = sym (wrong_more _ _ _ (omega arith) (told c.listed_ok.ensures c.if-not-listed_ok.false)) ∙ c.loop-k.invariant

pub returns : goal.returns
returns c =
    let l = c.loop-k in
    let e : l.k ≡ c.head_blocks-n.result = omega arith in
    (rw (← c.head_blocks-n.ensures.0) (sym (wrong_last _ _ _ (omega arith) ∙ e) ∙ l.invariant), tt)
