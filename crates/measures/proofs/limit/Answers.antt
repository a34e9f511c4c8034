-- `limit`: E, or m² × E; both fit.
use Prim.Native.Nat.{◌≤◌}
use native.Mathlib.Nat.{mul-le-mul}
use native.Mathlib.Omega.{arith}
use Rattle.measures.specs.Measures.{measure_absolute, measure_squares}
use Rattle.measures.proofs.limit.Goals as goal

pub returns-then-measure-eq-ABSOLUTE : goal.returns-then-measure-eq-ABSOLUTE
returns-then-measure-eq-ABSOLUTE c = rw (measure_absolute _ c.if-measure-eq-ABSOLUTE.true)

pub overflow_mul-result : goal.overflow_mul-result
overflow_mul-result c = omega (arith, mul-le-mul c.before.requires c.before.requires)

pub overflow_mul-result-2 : goal.overflow_mul-result-2
overflow_mul-result-2 c =
    let e : c.before.args.e ≤ 4294967295 = omega arith in
    omega (arith, mul-le-mul (mul-le-mul c.before.requires c.before.requires) e)

pub returns : goal.returns
returns c = rw (measure_squares _ c.if-measure-eq-ABSOLUTE.false)
