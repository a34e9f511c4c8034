-- `code_of`: what the number of a row or column adds is small.
use Prim.Native.Nat.{◌*◌, ◌≤◌}
use native.Mathlib.Nat.{mul-le-mul}
use native.Mathlib.Omega.{arith}
use Rattle.reach.proofs.code_of.Goals as goal
use Rattle.reach.proofs.code_of.Goals.{Start}

few : (s : Start) → s.args.weight * s.args.i ≤ 2112
few s = mul-le-mul {n₂ = 64} {m₂ = 33} s.requires.0 (omega (arith, s.requires.1))

pub overflow_mul-result : goal.overflow_mul-result
overflow_mul-result c = omega (arith, few (goal.at.overflow_mul-result c).Start)

pub overflow_add-result : goal.overflow_add-result
overflow_add-result c = omega (arith, few (goal.at.overflow_add-result c).Start, c.requires.1)
