-- `head_due`: whole, then the head's rules.
use mathlib.Core.Path.{◌≡◌, refl, sym, ◌∙◌}
use native.Mathlib.Omega.{arith}
use Rattle.refusals.specs.Numbers.{passes}
use Rattle.log_cursor.specs.Step.{head_taken, judged_short, judged_whole}
use Rattle.log_cursor.proofs.head_due.Goals as goal

pub returns-then-log-at : goal.returns-then-log-at
returns-then-log-at c = c.refused.ensures ∙ sym (judged_short _ _ _ _ _ refl (omega (arith, c.size_by.ensures)))

pub head_in-head-requires : goal.head_in-head-requires
head_in-head-requires c =
    (omega (arith, c.size_by.ensures, c.requires.1), omega (arith, c.size_by.ensures))

pub returns : goal.returns
returns c =
    let a = c.args in
    let t : c.taken.result ≡ head_taken a.log.now a.at = rw (c.is_ok-passes.ensures.value, passes c.head_refusal.result, c.head_refusal.ensures, c.head_in-head.ensures) at c.taken.ensures in
    t ∙ sym (judged_whole _ _ _ _ _ refl (omega (arith, c.size_by.ensures)))
