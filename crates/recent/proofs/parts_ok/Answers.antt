-- `parts_ok`: the held parts are counted one by one, and the total is held against the sum.
use Prim.Native.Nat.{◌+◌, ◌*◌}
use mathlib.Core.Path.{◌≡◌, sym, ap, ◌∙◌}
use native.Mathlib.Omega.{arith}
use borrow.Author.Rules.{rules}
use lib.IntN.{ℤ, pos}
use lib.ListN.{get_or}
use mir.Facts.{to_z-of_z}
use Rattle.base.specs.Sum.{sum_to_none, sum_to_more}
use Rattle.signed.specs.Values.{shifted_by}
use Rattle.recent.specs.Recent.{most_held}
use Rattle.recent.specs.Counting.{counted, counted_to}
use Rattle.recent.proofs.Held.{counted_few, sum_out, sum_at}
use mir.Syntax.{w32}
use Rattle.recent.proofs.parts_ok.Goals as goal
use Rattle.recent.proofs.parts_ok.Goals.{After-counted-total, After-loop-k, After-shift}

pub loop-k-init : goal.loop-k-init
loop-k-init c = sym (sum_to_none _)

-- one place more; the part comes back from its bits unchanged
next : (c : After-counted-total) →
    c.loop-k.total + c.counted-total.result ≡ counted_to c.args.places.now (c.loop-k.k + 1)
next c =
    let z = get_or c.args.places.now c.loop-k.k (pos 0) in
    rw (sum_to_more (λ i. counted (get_or c.args.places.now i (pos 0))) c.loop-k.k, ← c.loop-k.invariant)
    (ap (λ n. c.loop-k.total + n) (c.counted-total.ensures ∙ ap counted (to_z-of_z {w = w32} {z = z} (search rules))))

pub overflow_add-total : goal.overflow_add-total
overflow_add-total c =
    omega (arith, next c, counted_few c.args.places.now (c.loop-k.k + 1))

pub loop-k-preserved : goal.loop-k-preserved
loop-k-preserved c = next c

-- the sum comes back from its bits unchanged
shift_is : (c : After-shift) →
    let s = c.args in
    c.shift.result ≡ shifted_by (16 * s.held) s.sum (32 * most_held)
shift_is c =
    c.shift.ensures ∙ ap (λ (z : ℤ). shifted_by (16 * c.args.held) z (32 * most_held)) (to_z-of_z c.ranges.sum)

-- all are counted
total-is : (c : After-loop-k) → let a = c.args in c.loop-k.total ≡ counted_to a.places.now a.held
total-is c =
    let l = c.loop-k in
    let e : l.k ≡ c.args.held = omega arith in
    rw e at l.invariant

pub returns-in_default : goal.returns-in_default
returns-in_default c =
    sym (sum_out _ c.requires.0 _ _ c.requires.1 (sym (shift_is (goal.at.returns-in_default c).After-shift) ∙ c.in_default.is))

pub returns : goal.returns
returns c =
    rw (total-is (goal.at.returns c).After-loop-k) (sum_at _ c.requires.0 _ _ c.requires.1 _ (sym (shift_is (goal.at.returns c).After-shift) ∙ c.in-Some.is))
