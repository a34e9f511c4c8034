-- `leasts_below`: no number of a row is less than the row's least, nor than 0.
use Prim.Native.Nat.{◌+◌}
use native.Mathlib.Omega.{arith}
use Rattle.pruned_sift.proofs.Rows.{leasts_bound, zeros_bound}
use Rattle.pruned.proofs.leasts_below.Goals as goal

pub leasts-requires : goal.leasts-requires
leasts-requires c = c.requires.1

pub returns-then-m-n : goal.returns-then-m-n
returns-then-m-n c =
    let a = c.args in
    let e = c.leasts.ensures in
    (leasts_bound a.numbers.now (a.n + 32) a.r c.leasts.result e, λ h. e)

pub returns : goal.returns
returns c = (zeros_bound c.requires.1, λ h. absurd (omega (arith, h, c.if-m-n.false)))
