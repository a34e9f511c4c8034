-- `rows_by_four`: after g turns the sum is that of the first 4 × g rows as far as the ceiling goes, and the next row's place is 4 × g × width.
use Prim.Native.Nat.{◌+◌, ◌-◌, ◌*◌, ◌≤◌}
use mathlib.Core.Path.{◌≡◌, sym, ap₂, ◌∙◌}
use native.Mathlib.Nat.{zero-add, zero-mul, add-mul, mul-le-mul, mul-le-mul_right}
use native.Mathlib.Omega.{arith}
use Rattle.base.specs.Index.{row_next}
use Rattle.measures.specs.Measures.{measure_of, most_small}
use Rattle.distortion.specs.Blocks.{sum_up_to_none, sum_up_to_more, sum_up_to_passed}
use Rattle.distortion.proofs.rows_by_four.Goals as goal
use Rattle.distortion.proofs.rows_by_four.Goals.{In-loop-g}

-- a turn's rows end above the last
turn : (i : In-loop-g) → let a = i.args in
    let g = i.loop-g._g in
    (4 * (g + 1) * a.width ≡ 4 * g * a.width + 4 * a.width) × (4 * (g + 1) * a.width ≤ 4 * a.groups * a.width)
turn i =
    let a = i.args in
    let g = i.loop-g._g in
    let e : 4 * (g + 1) ≡ 4 * g + 4 = omega arith in
    (rw e (add-mul (4 * g) 4 a.width), mul-le-mul_right a.width (omega arith))

-- the sum with a turn's rows more, and that it fits
more : (i : In-loop-g) → let a = i.args in
    let g = i.loop-g._g in
    let four = 4 * (a.n * (measure_of a.measure).most) in
    ((g + 1) * four ≡ g * four + four) × ((g + 1) * four ≤ 16 * 16646400)
more i =
    let a = i.args in
    let g = i.loop-g._g in
    let r = i.requires in
    let line = mul-le-mul r.thin (most_small a.measure) in
    (row_next g (4 * (a.n * (measure_of a.measure).most)), mul-le-mul {n₂ = 16} {m₂ = 16646400} (omega (arith, r.few)) (omega (arith, line)))

pub overflow_mul-down : goal.overflow_mul-down
overflow_mul-down c = omega arith

pub loop-g-init : goal.loop-g-init
loop-g-init c =
    let a = c.args in
    let z = zero-mul a.width in
    (omega arith, omega (arith, z), omega (arith, zero-mul (4 * (a.n * (measure_of a.measure).most))), sym (sum_up_to_none _ _))

pub returns-then-ceiling-sum : goal.returns-then-ceiling-sum
returns-then-ceiling-sum c =
    let l = c.loop-g in
    let a = c.args in
    let all : a.groups ≡ l._g + (a.groups - l._g) = omega arith in
    let stopped = sum_up_to_passed a.ceiling _ l._g (a.groups - l._g) (rw l.invariant.3 at c.if-ceiling-sum.true) in
    l.invariant.3 ∙ sym (rw (← all) at stopped)

pub four_rows-sum-requires : goal.four_rows-sum-requires
four_rows-sum-requires c = omega (arith, turn (goal.at.four_rows-sum-requires c).In-loop-g, c.requires)

pub overflow_add-sum : goal.overflow_add-sum
overflow_add-sum c = omega (arith, more (goal.at.overflow_add-sum c).In-loop-g)

pub overflow_add-p : goal.overflow_add-p
overflow_add-p c = omega (arith, turn (goal.at.overflow_add-p c).In-loop-g, c.requires.in_newer)

pub loop-g-preserved : goal.loop-g-preserved
loop-g-preserved c =
    let l = c.loop-g in
    let a = c.args in
    let four = rw (l.invariant.1, ← zero-add (4 * l._g * a.width)) at c.four_rows-sum.ensures.0 in
    let next = sum_up_to_more a.ceiling _ l._g (rw l.invariant.3 at c.if-ceiling-sum.false) in
    (omega arith, omega (arith, turn (goal.at.loop-g-preserved c).In-loop-g), omega (arith, more (goal.at.loop-g-preserved c).In-loop-g), ap₂ ◌+◌ l.invariant.3 four ∙ sym next)

pub returns : goal.returns
returns c =
    let l = c.loop-g in
    let e : l._g ≡ c.args.groups = omega arith in
    rw (← e) l.invariant.3
