-- `copy_sum`: after g turns the sum is that of the first 4 × g rows, the next row is at place 4 × g × 64 on from the blocks' first, and beyond half way
-- the first half does not pass the ceiling.
use Prim.Native.Nat.{◌+◌, ◌*◌, ◌≤◌, ◌<◌}
use mathlib.Core.Path.{◌≡◌, refl, ◌∙◌}
use native.Mathlib.Omega.{arith}
use Rattle.base.specs.Sum.{sum_to}
use Rattle.measures.specs.Measures.{measure_of, most_small}
use Rattle.distortion.proofs.Rows.{rows_cut}
use Rattle.window_copy.specs.Copy.{copy_rows}
use Rattle.window_copy.proofs.Half.{copy_on, copy_passed}
use Rattle.window_copy.proofs.copy_sum.Goals as goal
use Rattle.window_copy.proofs.copy_sum.Goals.{At-loop-g, Joined-g-eq2, then-g-eq2+else-ceiling-sum, else-g-eq2}

-- half way down the sum is that of eight rows
half : (l : At-loop-g) → l.loop-g.g ≡ 2 → let a = l.args in
    l.loop-g.sum ≡ copy_rows a.window.now a.block.now a.at 8
half l e = rw e at l.loop-g.invariant.3

-- and whoever goes on from there has not passed the ceiling
on : (j : Joined-g-eq2) → let a = j.args in
    2 < j.loop-g.g + 1 → copy_rows a.window.now a.block.now a.at 8 ≤ a.ceiling
on j h =
    elim j.if-g-eq2.branch [
      | then-g-eq2+else-ceiling-sum w ↦ omega (arith, rw w.if-g-eq2.true at j.loop-g.invariant.3, w.if-ceiling-sum.false)
      | else-g-eq2 w ↦ j.loop-g.invariant.4 (omega (arith, w.if-g-eq2.false))
    ]

pub loop-g-init : goal.loop-g-init
unfolding sum_to
loop-g-init c = (omega arith, omega arith, omega arith, refl, λ h. absurd (omega arith))

pub overflow_add-sum : goal.overflow_add-sum
overflow_add-sum c = omega (arith, most_small 1)

pub loop-g-preserved : goal.loop-g-preserved
loop-g-preserved c =
    let l = c.loop-g in
    let a = c.args in
    let e : 4 * (l.g + 1) ≡ 4 * l.g + 4 = omega arith in
    let p : l.p ≡ 0 + 4 * l.g * 64 = omega arith in
    let cut = rows_cut (measure_of 1) a.window.now a.block.now 64 64 0 a.at 16 (4 * l.g) 4 in
    let four = rw (l.invariant.1, p) at c.four_rows-sum.ensures.0 in
    (omega arith, omega arith, omega (arith, c.four_rows-sum.ensures.1, most_small 1), rw e (omega (arith, cut, four, l.invariant.3)), on (goal.at.loop-g-preserved c).Joined-g-eq2)

pub returns-then-ceiling-sum : goal.returns-then-ceiling-sum
returns-then-ceiling-sum c = let e = half (goal.at.returns-then-ceiling-sum c).At-loop-g c.if-g-eq2.true in e ∙ copy_passed _ _ _ _ (rw e at c.if-ceiling-sum.true)

pub returns : goal.returns
returns c =
    let l = c.loop-g in
    let e : l.g ≡ 4 = omega arith in
    (rw e at l.invariant.3) ∙ copy_on _ _ _ _ (l.invariant.4 (omega arith))
