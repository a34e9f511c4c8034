-- `most`: by the measure.
use mathlib.Core.Path.{refl}
use native.Mathlib.Omega.{arith}
use Rattle.measures.specs.Measures.{measure_absolute, measure_squares}
use Rattle.measures.proofs.most.Goals as goal

pub returns-then-measure-eq-ABSOLUTE : goal.returns-then-measure-eq-ABSOLUTE
returns-then-measure-eq-ABSOLUTE c = rw (measure_absolute _ c.if-measure-eq-ABSOLUTE.true) (refl, omega arith)

pub returns : goal.returns
returns c = rw (measure_squares _ c.if-measure-eq-ABSOLUTE.false) (refl, omega arith)
