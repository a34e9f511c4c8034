-- `distortion_in`: by the command byte.
use native.Mathlib.Omega.{arith}
use borrow.Author.Tests.{eq-eqb, ne_eqb}
use Rattle.log_command.proofs.distortion_in.Goals as goal

pub four-requires : goal.four-requires
four-requires c = omega (arith, rw c.if-log-at-eq-LONG_BLOCK.true at c.requires.1)

pub returns-then-log-at-eq-LONG_BLOCK : goal.returns-then-log-at-eq-LONG_BLOCK
returns-then-log-at-eq-LONG_BLOCK c = rw (eq-eqb _ 5 c.if-log-at-eq-LONG_BLOCK.true) c.four.ensures

pub returns : goal.returns
returns c = rw (ne_eqb _ 5 c.if-log-at-eq-LONG_BLOCK.false) (c.two.ensures.0, omega (arith, c.two.ensures.1))
