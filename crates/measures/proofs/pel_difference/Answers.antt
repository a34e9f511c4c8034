-- `pel_difference`: the absolute difference, or the square of it.
use Prim.Native.Nat.{◌*◌, ◌≤◌}
use native.Mathlib.Nat.{mul-le-mul}
use native.Mathlib.Omega.{arith}
use Rattle.measures.specs.Measures.{measure_absolute, measure_squares}
use Rattle.measures.proofs.pel_difference.Goals as goal

-- the square of a byte
fits : (c : goal.After-from-d) → c.from-d.result * c.from-d.result ≤ 65025
fits c =
    let h : c.from-d.result ≤ 255 = omega (arith, c.from-d.ensures) in
    mul-le-mul h h

pub returns-then-measure-eq-ABSOLUTE : goal.returns-then-measure-eq-ABSOLUTE
returns-then-measure-eq-ABSOLUTE c = rw (measure_absolute _ c.before.if-measure-eq-ABSOLUTE.true) c.abs_diff.ensures

pub overflow_mul-result : goal.overflow_mul-result
overflow_mul-result c = omega (arith, fits c)

pub returns : goal.returns
returns c =
    let b = c.before.abs_diff-2.ensures in
    let w = c.from-d.ensures in
    rw (measure_squares _ c.before.before.if-measure-eq-ABSOLUTE.false) (rw (w, b), omega (arith, fits c))
