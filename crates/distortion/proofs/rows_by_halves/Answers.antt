-- `rows_by_halves`: after g turns the total is that of the first g halves as far as the ceiling goes; p and q are the places of the next two.
use Prim.Native.Nat.{◌+◌, ◌-◌, ◌*◌}
use mathlib.Core.Path.{◌≡◌, sym, ap₂, ◌∙◌}
use native.Mathlib.Nat.{zero-add, zero-mul, mul-le-mul_right}
use native.Mathlib.Omega.{arith}
use Rattle.base.specs.Index.{row_next}
use Rattle.measures.specs.Measures.{measure_of, most_small}
use Rattle.distortion.specs.Blocks.{half, sum_up_to_none, sum_up_to_more, sum_up_to_passed}
use Rattle.distortion.proofs.Rows.{half_below, half-inside}
use Rattle.distortion.proofs.rows_by_halves.Goals as goal

pub overflow_mul-down : goal.overflow_mul-down
overflow_mul-down c = omega arith

pub loop-g-init : goal.loop-g-init
loop-g-init c = let z = zero-mul c.args.width in (omega arith, omega (arith, z), omega (arith, z), omega arith, sym (sum_up_to_none _ _))

pub returns-then-ceiling-total : goal.returns-then-ceiling-total
returns-then-ceiling-total c =
    let l = c.loop-g in
    let a = c.args in
    let all : 16 ≡ l._g + (16 - l._g) = omega arith in
    let stopped = sum_up_to_passed a.ceiling _ l._g (16 - l._g) (rw l.invariant.4 at c.if-ceiling-total.true) in
    l.invariant.4 ∙ sym (rw (← all) at stopped)

pub four_rows-total-requires : goal.four_rows-total-requires
four_rows-total-requires c =
    let l = c.loop-g in
    omega (arith, half-inside c.args.width l._g (omega arith), c.requires)

pub overflow_add-total : goal.overflow_add-total
overflow_add-total c =
    let l = c.loop-g in
    let m = c.args.measure in
    omega (arith, c.four_rows-total.ensures.1, most_small m, mul-le-mul_right (4 * (16 * (measure_of m).most)) l.invariant.0)

pub overflow_add-below : goal.overflow_add-below
overflow_add-below c =
    let l = c.loop-g in
    omega (arith, half-inside c.args.width l._g (omega arith), c.requires.wide)

pub loop-g-preserved : goal.loop-g-preserved
loop-g-preserved c =
    let l = c.loop-g in
    let a = c.args in
    let four = rw (l.invariant.1, ← zero-add (half a.width l._g)) at c.four_rows-total.ensures.0 in
    let next = sum_up_to_more a.ceiling _ l._g (rw l.invariant.4 at c.if-ceiling-total.false) in
    let e : l._g + 1 + 1 ≡ l._g + 2 = omega arith in (
      omega arith,
      l.invariant.2,
      rw e (omega (arith, half_below a.width l._g)),
      omega (arith, c.four_rows-total.ensures.1, row_next l._g (4 * (16 * (measure_of a.measure).most))),
      ap₂ ◌+◌ l.invariant.4 four ∙ sym next,
    )

pub returns : goal.returns
returns c =
    let l = c.loop-g in
    let e : l._g ≡ 16 = omega arith in
    rw e at l.invariant.4
