-- `largest_in`: N is at most the largest, so that the products fit.
use Prim.Native.Nat.{◌*◌, ◌≤◌}
use native.Mathlib.Nat.{mul-le-mul, mul_assoc}
use native.Mathlib.Omega.{arith}
use Rattle.log_head.specs.Heads.{headed}
use Rattle.frame.specs.Pictures.{largest_n}
use Rattle.log_head.proofs.largest_in.Goals as goal
use Rattle.log_head.proofs.largest_in.Goals.{Start}

area : (c : Start) → c.args.h.n * c.args.h.n ≤ largest_n * largest_n
area c = let s = (headed c.args.h c.requires).size in mul-le-mul s s

pub overflow_mul-result : goal.overflow_mul-result
overflow_mul-result c = omega (arith, area (goal.at.overflow_mul-result c).Start)

pub overflow_cast-result : goal.overflow_cast-result
overflow_cast-result c = omega (arith, area (goal.at.overflow_cast-result c).Start)

pub overflow_mul-result-2 : goal.overflow_mul-result-2
overflow_mul-result-2 c = omega (arith, mul-le-mul (area (goal.at.overflow_mul-result-2 c).Start) c.most.ensures.1)

pub returns : goal.returns
returns c = let n = c.args.h.n in rw c.most.ensures.0 (mul_assoc n n _)
