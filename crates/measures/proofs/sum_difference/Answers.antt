-- `sum_difference`: the absolute difference, or its square; sums of 31 bits have squares of 62.
use Prim.Native.Nat.{◌≤◌}
use native.Mathlib.Nat.{mul-le-mul}
use native.Mathlib.Omega.{arith}
use Rattle.measures.specs.Measures.{measure_absolute, measure_squares}
use Rattle.measures.proofs.sum_difference.Goals as goal

pub returns-then-measure-eq-ABSOLUTE : goal.returns-then-measure-eq-ABSOLUTE
returns-then-measure-eq-ABSOLUTE c = rw (measure_absolute _ c.if-measure-eq-ABSOLUTE.true) c.before.abs_diff_u32-apart.ensures

pub overflow_mul-result : goal.overflow_mul-result
overflow_mul-result c =
    let d = c.before.abs_diff_u32-apart.ensures in
    let h : c.before.abs_diff_u32-apart.result ≤ 2147483647 = omega (arith, d, c.before.before.requires) in
    omega (arith, mul-le-mul h h)

pub returns : goal.returns
returns c = rw (measure_squares _ c.if-measure-eq-ABSOLUTE.false, c.before.abs_diff_u32-apart.ensures)
