-- `half_block`: after i turns the first i rows are stored, and the places are those of row i.
use Prim.Native.Nat.{◌+◌, ◌*◌, ◌/◌, ◌≤◌}
use mathlib.Core.Path.{◌≡◌, ◌∙◌}
use native.Mathlib.Nat.{zero-mul}
use native.Mathlib.Omega.{arith}
use lib.ListN.{length}
use Rattle.base.specs.Index.{row_next}
use Rattle.base.specs.Lists.{stored_none}
use Rattle.frame.specs.Pictures.{pels_few}
use Rattle.half_pel.proofs.Values.{half_room, half_more}
use Rattle.half_pel.proofs.half_block.Goals as goal
use Rattle.half_pel.proofs.half_block.Goals.{Start}

few : (s : Start) → length s.args.frame.now ≤ 1048576
few s = omega (arith, s.requires.0.whole, pels_few s.args.s s.requires.0.fitting)

-- the block's first place lies inside the frame
first : (s : Start) → let a = s.args in a.p / 2 * a.s.width + a.q / 2 ≤ length a.frame.now
first s = omega (arith, half_room _ _ _ _ s.requires.0 0 s.requires.0.fitting.some)

pub overflow_mul-from : goal.overflow_mul-from
overflow_mul-from c = omega (arith, first (goal.at.overflow_mul-from c).Start, few (goal.at.overflow_mul-from c).Start)

pub overflow_add-from : goal.overflow_add-from
overflow_add-from c = omega (arith, first (goal.at.overflow_add-from c).Start, few (goal.at.overflow_add-from c).Start)

pub loop-i-init : goal.loop-i-init
loop-i-init c =
    (omega (arith, zero-mul c.args.s.width), omega arith, stored_none _ _ _ _ _, c.requires.1)

pub value_row-requires : goal.value_row-requires
value_row-requires c =
    let i = c.loop-i._i in
    let h = c.loop-i-test.true in (
      omega (arith, half_room _ _ _ _ c.requires.0 i h),
      omega (arith, c.requires.0.small, h),
      omega arith,
      c.requires.0.fitting.wide,
      few (goal.at.value_row-requires c).Start,
    )

pub overflow_add-from-in-loop-i : goal.overflow_add-from-in-loop-i
overflow_add-from-in-loop-i c =
    omega (arith, half_room _ _ _ _ c.requires.0 c.loop-i._i c.loop-i-test.true, few (goal.at.overflow_add-from-in-loop-i c).Start, c.requires.0.fitting.wide)

pub overflow_add-at : goal.overflow_add-at
overflow_add-at c = omega (arith, c.requires.0.small, c.loop-i-test.true)

pub loop-i-preserved : goal.loop-i-preserved
loop-i-preserved c =
    let l = c.loop-i in
    let a = c.args in (
      omega (arith, row_next l._i a.s.width),
      omega arith,
      c.value_row.ensures
          ∙ rw (l.invariant.0, l.invariant.1, l.invariant.2) (half_more a.frame.now a.s.width a.p a.q a.s.n a.half.now l._i),
      c.value_row.auto.half ∙ l.invariant.3,
    )

pub shape_of-half : goal.shape_of-half
shape_of-half c = omega (arith, c.loop-i.invariant.3, c.requires.1)

pub returns : goal.returns
returns c =
    let e : c.loop-i._i ≡ c.args.s.n = omega (arith, c.loop-i-test.false) in
    rw e at c.loop-i.invariant.2
