-- `column_least`: after the rows before i of the upper half and as many of the lower one the least of each half is that of their keys.
use Prim.Native.Nat.{ℕ, ◌+◌, ◌-◌, ◌/◌, ◌%◌, ◌<◌, min}
use mathlib.Core.Path.{◌≡◌, sym, ◌∙◌}
use native.Mathlib.Omega.{arith}
use lib.ListN.{get_or}
use Rattle.reach.specs.Keys.{order_code}
use Rattle.reach.proofs.Keys.{code_small}
use Rattle.full.specs.Rows.{least_from}
use Rattle.full.proofs.Keys.{least_first, least_next, least_cut, code_read}
use Rattle.full.proofs.Strips.{strip_key}
use Rattle.full.proofs.column_least.Goals as goal
use Rattle.full.proofs.column_least.Goals.{At-loop-i, then-last-to, else-last-to}

-- the rows before the middle, and those from there on
halves : (best : ℕ) (g : ℕ → ℕ) (from middle to n m least other : ℕ) → least ≡ least_from best g from n → other ≡ least_from best g middle m
    → middle ≡ from + n → to - from ≡ n + m → min least other ≡ least_from best g from (to - from)
halves best g from middle to n m least other a b at all = rw (a, b, at, all) (sym (least_cut best g from n m))

-- what row i adds to the column's part of a key is their place in the order
code_is : (l : At-loop-i) (i : ℕ) → i < 33 → let a = l.args in
    l.code_of-across.result + get_or a.codes.now i 0 ≡ order_code i a.j
unfolding order_code
code_is l i h = omega (arith, code_read _ 64 i l.requires.6 h, l.code_of-across.ensures)

code-low : (l : At-loop-i) (i : ℕ) → i < 33 → let a = l.args in
    l.code_of-across.result + get_or a.codes.now i 0 < 262144
code-low l i h = rw (code_is l i h) (code_small i l.args.j h l.requires.3)

pub loop-i-init : goal.loop-i-init
loop-i-init c =
    let a = c.args in
    let e : a.from - a.from ≡ 0 = omega arith in
    (rw e (least_first _ _ _), rw e (least_first _ _ _))

pub overflow_add-across : goal.overflow_add-across
overflow_add-across c = omega (arith, code-low (goal.at.overflow_add-across c).At-loop-i c.loop-i.i (omega arith))

pub lesser_key-least-requires : goal.lesser_key-least-requires
lesser_key-least-requires c = code-low (goal.at.lesser_key-least-requires c).At-loop-i c.loop-i.i (omega arith)

pub overflow_add-across-in-loop-i : goal.overflow_add-across-in-loop-i
overflow_add-across-in-loop-i c = omega (arith, code-low (goal.at.overflow_add-across-in-loop-i c).At-loop-i (c.loop-i.i + ((c.args.from + c.args.to) / 2 - c.args.from)) (omega arith))

pub lesser_key-other-requires : goal.lesser_key-other-requires
lesser_key-other-requires c = code-low (goal.at.lesser_key-other-requires c).At-loop-i _ (omega arith)

pub loop-i-preserved : goal.loop-i-preserved
loop-i-preserved c =
    let a = c.args in
    let v = c.loop-i.invariant in
    let i = c.loop-i.i in
    let n = i - a.from in
    let k = i + ((a.from + a.to) / 2 - a.from) in
    let more : i + 1 - a.from ≡ n + 1 = omega arith in
    let l = (goal.at.loop-i-preserved c).At-loop-i in
    let upper =
    strip_key a.strip.now a.block.now c.requires.2 a.j i c.loop-i.least (i % 2) _ _ _ (omega arith) c.four_rows-d.ensures.0
    (code_is l i (omega arith)) c.lesser_key-least.ensures in
    let lower =
    strip_key a.strip.now a.block.now c.requires.2 a.j k c.loop-i.other (i % 2) _ _ _ (omega arith) c.four_rows-e.ensures.0
    (code_is l k (omega arith)) c.lesser_key-other.ensures in (
      rw more (least_next a.best _ a.from n _ _ _ v.0 (omega arith) upper),
      rw more (least_next a.best _ _ n _ _ _ v.1 (omega arith) lower),
    )

pub overflow_add-across-then-last-to : goal.overflow_add-across-then-last-to
overflow_add-across-then-last-to c =
    let m = (c.args.from + c.args.to) / 2 in
    omega (arith, code-low (goal.at.overflow_add-across-then-last-to c).At-loop-i (m + (m - c.args.from)) (omega arith))

pub with_row-other-requires : goal.with_row-other-requires
with_row-other-requires c =
    let p = c.requires in
    (p.0, p.1, p.2, p.3, omega arith, code_is (goal.at.with_row-other-requires c).At-loop-i _ (omega arith))

pub returns : goal.returns
returns c =
    let a = c.args in
    let v = c.loop-i.invariant in
    let n = c.loop-i.i - a.from in
    c.min.ensures
    ∙ elim c.if-last-to.branch [
      | then-last-to w ↦
          halves a.best _ a.from _ a.to n (n + 1) _ _ v.0 (w.other-is ∙ least_next a.best _ _ n _ _ _ v.1 (omega arith) w.with_row-other.ensures) (omega arith) (omega arith)
      | else-last-to w ↦ halves a.best _ a.from _ a.to n n _ _ v.0 (w.other-is ∙ v.1) (omega arith) (omega arith)
    ]
