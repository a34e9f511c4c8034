-- `row_least`: after the columns before j the least is that of their keys.
use Prim.Native.Nat.{◌+◌, ◌-◌, ◌≤◌, ◌<◌}
use mir.Syntax.{w32}
use mathlib.Core.Path.{◌≡◌, refl, ap₂, ◌∙◌}
use native.Mathlib.Omega.{arith}
use borrow.Author.Rules.{Fits-under}
use lib.ListN.{get_or}
use Rattle.distortion.specs.Blocks.{size_by, measure_by}
use Rattle.reach.specs.Keys.{order_code, key_of}
use Rattle.reach.proofs.Keys.{code_parts, code_small}
use Rattle.full.specs.Rows.{key_in_copy}
use Rattle.full.proofs.Keys.{least_first, least_more, least_low, code_read, least_enough}
use Rattle.full.proofs.row_least.Goals as goal
use Rattle.full.proofs.row_least.Goals.{At-loop-j}

-- what row i and column j add to a key is their place in the order
code_is : (l : At-loop-j) → l.loop-j.j < 33 → let a = l.args in
    l.code_of-down.result + get_or a.codes.now l.loop-j.j 0 ≡ order_code a.i l.loop-j.j
code_is l h = ap₂ ◌+◌ l.code_of-down.ensures (code_read _ 1 _ l.requires.7 h) ∙ code_parts l.args.i l.loop-j.j

code-low : (l : At-loop-j) → l.loop-j.j < 33 → let a = l.args in
    l.code_of-down.result + get_or a.codes.now l.loop-j.j 0 < 262144
code-low l h = rw (code_is l h) (code_small l.args.i l.loop-j.j l.requires.4 h)

-- the least is no more than what it began with
low : (l : At-loop-j) → l.loop-j.least ≤ l.args.best
low l = let a = l.args in omega (arith, l.loop-j.invariant, least_low a.best (key_in_copy (measure_by a.kernel) (size_by a.kernel) a.window.now a.block.now a.i) a.from (l.loop-j.j - a.from))

pub loop-j-init : goal.loop-j-init
loop-j-init c =
    let a = c.args in
    let e : a.from - a.from ≡ 0 = omega arith in
    rw e (least_first _ _ _)

pub overflow_cast-least : goal.overflow_cast-least
overflow_cast-least c = Fits-under w32 _ 4294967296 (omega (arith, low (goal.at.overflow_cast-least c).At-loop-j)) tt

pub overflow_add-down : goal.overflow_add-down
overflow_add-down c = omega (arith, code-low (goal.at.overflow_add-down c).At-loop-j (omega arith))

pub lesser_key-least-requires : goal.lesser_key-least-requires
lesser_key-least-requires c = code-low (goal.at.lesser_key-least-requires c).At-loop-j (omega arith)

pub loop-j-preserved : goal.loop-j-preserved
unfolding key_of
loop-j-preserved c =
    let j = c.loop-j.j in
    let a = c.args in
    let u = c.sum_at-d.ensures in
    let more : j + 1 - a.from ≡ j - a.from + 1 = omega arith in
    let here : a.from + (j - a.from) ≡ j = omega arith in
    c.lesser_key-least.ensures
    ∙ least_enough c.loop-j.least _ _ _ (code-low (goal.at.loop-j-preserved c).At-loop-j (omega arith)) u
    ∙ rw (more, least_more, here, ← c.loop-j.invariant, code_is (goal.at.loop-j-preserved c).At-loop-j (omega arith)) refl
