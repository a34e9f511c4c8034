-- `sum_at`: both ways sum as far as the ceiling goes; a block of N 32 in the last row and column of window 16 ends where the window does.
use native.Mathlib.Omega.{arith}
use Rattle.refusals.specs.Refusals.{block_size}
use Rattle.window_copy.proofs.Half.{copy-up-to}
use Rattle.full.proofs.sum_at.Goals as goal

pub returns-then-kernel-eq16 : goal.returns-then-kernel-eq16
returns-then-kernel-eq16 c =
    let a = c.args in
    rw (c.if-kernel-eq16.true, c.copy_sum.ensures) (copy-up-to a.ceiling _ _ a.at)

pub distortion_from-requires : goal.distortion_from-requires
distortion_from-requires c =
    let p = c.requires in
    let n = (block_size _ p.3).most in
    (p.2, record { in_newer = omega (arith, n); in_older = omega (arith, n); wide = omega arith; allowed = p.3 })
