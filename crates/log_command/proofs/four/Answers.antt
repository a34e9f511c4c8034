-- `four`: two pairs of bytes.
use native.Mathlib.Omega.{arith}
use Rattle.log_command.specs.Numbers.{be4}
use Rattle.log_command.proofs.four.Goals as goal

pub returns : goal.returns
unfolding be4
returns c =
    let high = c.two.ensures in
    let low = c.two-2.ensures in
    (rw (← high.0, ← low.0), omega (arith, high.1, low.1))
