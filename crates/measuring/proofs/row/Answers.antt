-- `row`: after j pels the sum is that of the first j, each at most the measure's most.
use Prim.Native.Nat.{◌*◌, ◌≤◌}
use mathlib.Core.Path.{◌≡◌, sym}
use native.Mathlib.Nat.{mul-le-mul}
use native.Mathlib.Omega.{arith}
use Rattle.base.specs.Index.{row_next}
use Rattle.measures.specs.Measures.{measure_of, most_small}
use Rattle.distortion.specs.Blocks.{row_first, row-more}
use Rattle.measuring.proofs.row.Goals as goal

pub loop-j-init : goal.loop-j-init
loop-j-init c = (omega arith, sym (row_first _ _ _ _ _), omega arith)

pub overflow_add-a : goal.overflow_add-a
overflow_add-a c = omega arith

pub bounds-newer-a : goal.bounds-newer-a
bounds-newer-a c = omega arith

pub overflow_add-b : goal.overflow_add-b
overflow_add-b c = omega arith

pub bounds-older-b : goal.bounds-older-b
bounds-older-b c = omega arith

pub pel_difference-sum-requires : goal.pel_difference-sum-requires
pel_difference-sum-requires c = tt

pub overflow_add-sum : goal.overflow_add-sum
overflow_add-sum c =
    let m = most_small c.args.measure in
    let few : c.loop-j.j * (measure_of c.args.measure).most ≤ 64 * 65025 = mul-le-mul {n₂ = 64} (omega arith) m in
    omega (arith, c.loop-j.invariant.2, c.pel_difference-sum.ensures.1, m, few)

pub loop-j-preserved : goal.loop-j-preserved
loop-j-preserved c =
    let a = c.args in
    let more = row-more (measure_of a.measure) a.older.now a.newer.now a.a a.b c.loop-j.j in (
      omega arith,
      omega (arith, c.loop-j.invariant.1, more, c.pel_difference-sum.ensures.0),
      omega (arith, c.loop-j.invariant.2, c.pel_difference-sum.ensures.1, row_next c.loop-j.j (measure_of a.measure).most),
    )

pub returns : goal.returns
returns c =
    let l = c.loop-j in
    let e : l.j ≡ c.args.n = omega arith in
    rw (← e) (l.invariant.1, l.invariant.2)
