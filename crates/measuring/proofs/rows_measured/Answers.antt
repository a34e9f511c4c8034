-- `rows_measured`: after so many rows the sum is theirs, none before has passed the ceiling, and the next row begins so many widths on.
use Prim.Native.Nat.{◌+◌, ◌-◌, ◌*◌, ◌≤◌, ◌<◌}
use mathlib.Core.Path.{◌≡◌, sym}
use native.Mathlib.Nat.{le_of_lt, zero-mul, mul-le-mul, mul-le-mul_right}
use native.Mathlib.Omega.{arith}
use Rattle.base.specs.Index.{row_next}
use Rattle.base.specs.Sum.{sum_to_none, sum_to_more}
use Rattle.measures.specs.Measures.{measure_of, most_small}
use Rattle.distortion.specs.Blocks.{row_from, size_small}
use Rattle.measuring.proofs.Passing.{rows_none, rows_more, rows_passed}
use Rattle.measuring.proofs.rows_measured.Goals as goal
use Rattle.measuring.proofs.rows_measured.Goals.{At-loop-rows}

-- a row more ends above the last, and the sum with it fits
turn : (l : At-loop-rows) → let s = l.args.s in
    let line = s.n * (measure_of s.measure).most in
    l.loop-rows.rows < s.n → ((l.loop-rows.rows + 1) * s.width ≤ s.n * s.width) × (s.n < 64) × ((l.loop-rows.rows + 1) * line ≤ 64 * (64 * 65025))
turn l h =
    let s = l.args.s in
    let small = size_small s.n l.requires.allowed in
    let line = mul-le-mul {n₂ = 64} (le_of_lt small) (most_small s.measure) in
    (mul-le-mul_right s.width (omega arith), small, mul-le-mul {n₂ = 64} (omega arith) line)

pub loop-rows-init : goal.loop-rows-init
loop-rows-init c =
    let s = c.args.s in (
      omega (arith, zero-mul s.width),
      omega (arith, zero-mul s.width),
      omega arith,
      omega arith,
      sym (sum_to_none _),
      rows_none _ _,
    )

pub returns-then-ceiling-sum : goal.returns-then-ceiling-sum
returns-then-ceiling-sum c =
    let l = c.loop-rows in
    let a = c.args in
    let all : l.rows + (a.s.n - l.rows) ≡ a.s.n = omega arith in
    let stopped = rows_passed a.ceiling _ l.rows (a.s.n - l.rows) l.invariant.5 (rw l.invariant.4 at c.if-ceiling-sum.true) in
    (sym (rw all at stopped), l.invariant.2)

pub row-sum-requires : goal.row-sum-requires
row-sum-requires c =
    omega (arith, turn (goal.at.row-sum-requires c).At-loop-rows c.loop-rows-test.true, row_next c.loop-rows.rows c.args.s.width, c.requires.in_newer, c.requires.in_older)

pub overflow_add-sum : goal.overflow_add-sum
overflow_add-sum c =
    let s = c.args.s in
    omega (arith, turn (goal.at.overflow_add-sum c).At-loop-rows c.loop-rows-test.true, row_next c.loop-rows.rows (s.n * (measure_of s.measure).most), c.row-sum.ensures.1)

pub overflow_add-p : goal.overflow_add-p
overflow_add-p c =
    omega (arith, turn (goal.at.overflow_add-p c).At-loop-rows c.loop-rows-test.true, row_next c.loop-rows.rows c.args.s.width, c.requires.in_newer, c.requires.wide)

pub overflow_add-q : goal.overflow_add-q
overflow_add-q c =
    omega (arith, turn (goal.at.overflow_add-q c).At-loop-rows c.loop-rows-test.true, row_next c.loop-rows.rows c.args.s.width, c.requires.in_older, c.requires.wide)

pub loop-rows-preserved : goal.loop-rows-preserved
loop-rows-preserved c =
    let a = c.args in
    let rows = c.loop-rows.rows in
    let across = row_next rows a.s.width in
    let more = sum_to_more (λ i. row_from (measure_of a.s.measure) a.older.now a.newer.now (a.a + i * a.s.width) (a.b + i * a.s.width) a.s.n) rows in
    let next = rw (c.loop-rows.invariant.0, c.loop-rows.invariant.1) at c.row-sum.ensures.0 in (
      omega (arith, across),
      omega (arith, across),
      omega arith,
      omega (arith, row_next rows (a.s.n * (measure_of a.s.measure).most), c.row-sum.ensures.1),
      omega (arith, c.loop-rows.invariant.4, more, next),
      rows_more _ _ rows c.loop-rows.invariant.5 (rw c.loop-rows.invariant.4 at c.if-ceiling-sum.false),
    )

pub returns : goal.returns
returns c =
    let l = c.loop-rows in
    let e : l.rows ≡ c.args.s.n = omega arith in
    (sym (rw e at l.invariant.5), omega arith)
