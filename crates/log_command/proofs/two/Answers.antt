-- `two`: the definition's sum.
use Prim.Native.Nat.{◌+◌}
use native.Mathlib.Omega.{arith}
use Rattle.log_command.specs.Numbers.{be2}
use Rattle.log_command.proofs.two.Goals as goal

pub returns : goal.returns
unfolding be2
returns c = (rw (← c.from.ensures, ← c.from-2.ensures), omega (arith, c.from.ensures, c.from-2.ensures, c.type_inv.log c.args.i, c.type_inv.log (c.args.i + 1)))
