-- `level_of`: the numbers fit.
use Prim.Native.Nat.{◌+◌, ◌*◌, ◌≤◌}
use native.Mathlib.Omega.{arith}
use native.Mathlib.Nat.{mul-le-mul}
use Rattle.boxes.proofs.Rooms.{log2_power, square_small, area_small}
use Rattle.boxes.proofs.level_of.Goals as goal
use Rattle.boxes.proofs.level_of.Goals.{After-area}

-- the boxes of m stand in an array of five areas
level-small : (c : After-area) → c.log2_window.result * c.area.result ≤ 20480
level-small c =
    let e = c.requires.1 in
    let a : c.area.result ≤ 5120 = rw c.area.ensures (area_small c.args.n c.requires.0) in
    let k : c.log2_window.result ≤ 4 =
    rw (c.log2_window.ensures, e.power, log2_power e.exponent e.few) e.few in
    mul-le-mul {n₂ = 4} {m₂ = 5120} k a

pub overflow_mul-at : goal.overflow_mul-at
overflow_mul-at c = omega (arith, level-small c)

pub overflow_add-result : goal.overflow_add-result
overflow_add-result c = omega (arith, level-small c, square_small (c.args.n + 32) 64 (omega arith))
