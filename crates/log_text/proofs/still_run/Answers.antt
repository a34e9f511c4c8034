-- `still_run`: as long as the byte there is a still block's, one more is counted.
use Prim.Native.Nat.{◌+◌}
use mathlib.Core.Path.{◌≡◌, ◌∙◌}
use native.Mathlib.Omega.{arith}
use Rattle.log_text.proofs.Stills.{still_inside, counted_more, counted_last}
use Rattle.log_text.proofs.still_run.Goals as goal

pub returns-then-from-n : goal.returns-then-from-n
returns-then-from-n c =
    let i = c.loop-n.invariant in
    let s = c.args in
    (counted_last i (λ h e. omega (arith, still_inside s.log.now (s.from + c.loop-n.n) e)), i.few, i.inside)

pub returns-then-log-from-ne-STILL : goal.returns-then-log-from-ne-STILL
returns-then-log-from-ne-STILL c =
    let i = c.loop-n.invariant in
    (counted_last i (λ l. c.if-log-from-ne-STILL.true), i.few, i.inside)

pub loop-n-preserved : goal.loop-n-preserved
loop-n-preserved c = counted_more c.loop-n.invariant (omega arith) c.if-log-from-ne-STILL.false

pub returns : goal.returns
returns c =
    let i = c.loop-n.invariant in
    let all : c.args.most ≡ c.loop-n.n = omega arith in
    (all ∙ counted_last i (λ l. absurd (omega arith)), omega arith, omega (arith, i.inside))
