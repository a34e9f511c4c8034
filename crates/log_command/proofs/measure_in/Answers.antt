-- `measure_in`: by the command byte.
use native.Mathlib.Omega.{arith}
use borrow.Author.Tests.{eq-eqb, ne_eqb}
use Rattle.log_command.proofs.measure_in.Goals as goal

pub bounds-log-at-then-log-at-eq-MEASURED_HEAD : goal.bounds-log-at-then-log-at-eq-MEASURED_HEAD
bounds-log-at-then-log-at-eq-MEASURED_HEAD c = omega (arith, rw c.if-log-at-eq-MEASURED_HEAD.true at c.requires.1)

pub returns-then-log-at-eq-MEASURED_HEAD : goal.returns-then-log-at-eq-MEASURED_HEAD
returns-then-log-at-eq-MEASURED_HEAD c = rw (eq-eqb _ 6 c.if-log-at-eq-MEASURED_HEAD.true) c.from.ensures

pub returns : goal.returns
returns c = rw (ne_eqb _ 6 c.if-log-at-eq-MEASURED_HEAD.false)
