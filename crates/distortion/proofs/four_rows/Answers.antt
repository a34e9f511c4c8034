-- `four_rows`: at row i and column j the places are i × across + j and i × width + j on from where the rows begin, and the sum is that of the pels
-- before.
use Prim.Native.Nat.{◌*◌, ◌≤◌}
use mathlib.Core.Path.{◌≡◌}
use native.Mathlib.Nat.{mul-le-mul, mul-le-mul_right}
use native.Mathlib.Omega.{arith}
use Rattle.base.specs.Index.{row_next}
use Rattle.measures.specs.Measures.{measure_of, most_small}
use Rattle.distortion.proofs.Rows.{summed_none, summed_pel, summed_row, summed_all}
use Rattle.distortion.proofs.four_rows.Goals as goal
use Rattle.distortion.proofs.four_rows.Goals.{At-loop-j, In-loop-j}

-- no row begins below the last
inside : (l : At-loop-j) → let a = l.args in
    (l.loop-i._i * a.across ≤ 3 * a.across) × (l.loop-i._i * a.width ≤ 3 * a.width)
inside l =
    let a = l.args in
    (mul-le-mul_right a.across (omega arith), mul-le-mul_right a.width (omega arith))

-- the sum with a pel more fits
fits : (d : In-loop-j) → let a = d.args in
    let m = (measure_of a.measure).most in
    (d.loop-i._i * (a.n * m) ≤ 3 * (64 * 65025)) × (d.loop-j._j * m ≤ 64 * 65025) × (m ≤ 65025)
fits d =
    let m = most_small d.args.measure in
    (mul-le-mul {n₂ = 3} (omega arith) (mul-le-mul d.requires.2 m), mul-le-mul {n₂ = 64} (omega arith) m, m)

pub loop-i-init : goal.loop-i-init
loop-i-init c = (omega arith, omega arith, omega arith, summed_none _ _ _ _ _ _ _ _)

pub loop-j-init : goal.loop-j-init
loop-j-init c = (omega arith, omega arith, omega arith, omega arith, c.loop-i.invariant.3)

pub bounds-newer-p : goal.bounds-newer-p
bounds-newer-p c = omega (arith, inside (goal.at.bounds-newer-p c).At-loop-j)

pub bounds-older-q : goal.bounds-older-q
bounds-older-q c = omega (arith, inside (goal.at.bounds-older-q c).At-loop-j)

pub pel_difference-sum-requires : goal.pel_difference-sum-requires
pel_difference-sum-requires c = tt

pub overflow_add-sum : goal.overflow_add-sum
overflow_add-sum c =
    omega (arith, c.loop-j.invariant.4.most, fits (goal.at.overflow_add-sum c).In-loop-j, c.pel_difference-sum.ensures.1)

pub overflow_add-p : goal.overflow_add-p
overflow_add-p c = omega (arith, inside (goal.at.overflow_add-p c).At-loop-j)

pub overflow_add-q : goal.overflow_add-q
overflow_add-q c = omega (arith, inside (goal.at.overflow_add-q c).At-loop-j)

pub loop-j-preserved : goal.loop-j-preserved
loop-j-preserved c =
    let v = c.loop-j.invariant in
    let d = rw (v.0, v.1) at c.pel_difference-sum.ensures.0 in
    (omega arith, omega arith, omega arith, omega arith, summed_pel _ _ _ _ _ _ _ _ _ _ _ _ v.4 d c.pel_difference-sum.ensures.1)

pub overflow_add-p-in-loop-i : goal.overflow_add-p-in-loop-i
overflow_add-p-in-loop-i c = omega (arith, inside (goal.at.overflow_add-p-in-loop-i c).At-loop-j)

pub overflow_sub-p : goal.overflow_sub-p
overflow_sub-p c = omega arith

pub overflow_add-q-in-loop-i : goal.overflow_add-q-in-loop-i
overflow_add-q-in-loop-i c = omega (arith, inside (goal.at.overflow_add-q-in-loop-i c).At-loop-j)

pub overflow_sub-q : goal.overflow_sub-q
overflow_sub-q c = omega arith

pub loop-i-preserved : goal.loop-i-preserved
loop-i-preserved c =
    let a = c.args in
    let i = c.loop-i._i in
    let e : c.loop-j._j ≡ a.n = omega arith in
    let over = summed_row _ _ _ _ _ _ _ _ i _ (rw e at c.loop-j.invariant.4) in
    (omega (arith, row_next i a.across), omega (arith, row_next i a.width), omega arith, over)

pub returns : goal.returns
returns c =
    let l = c.loop-i in
    let e : l._i ≡ 4 = omega arith in
    summed_all _ _ _ _ _ _ _ _ _ _ (rw e at l.invariant.3)
