-- `kernel`: by the measure.
use native.Mathlib.Omega.{arith}
use borrow.Author.Tests.{eq-eqb, ne_eqb}
use Rattle.distortion.specs.Blocks.{kernel_of}
use Rattle.distortion.proofs.kernel.Goals as goal

pub returns-then-measure-eq-ABSOLUTE : goal.returns-then-measure-eq-ABSOLUTE
unfolding kernel_of
returns-then-measure-eq-ABSOLUTE c = rw (eq-eqb _ 1 c.if-measure-eq-ABSOLUTE.true)

pub overflow_add-result : goal.overflow_add-result
overflow_add-result c = omega (arith, c.requires)

pub returns : goal.returns
unfolding kernel_of
returns c = rw (ne_eqb _ 1 c.if-measure-eq-ABSOLUTE.false)
