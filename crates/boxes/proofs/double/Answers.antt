-- `double`: after t turns the first t boxes are stored; what they are made of stands before them.
use Prim.Native.Nat.{ℕ, ◌+◌, ◌≤◌, ◌<◌}
use mathlib.Core.Path.{◌≡◌, refl}
use native.Mathlib.Omega.{arith}
use borrow.Author.Rules.{rules}
use mir.Val.{Fits}
use mir.Syntax.{w16}
use lib.ListN.{get_or, length-set}
use Rattle.base.specs.Lists.{fill_none, fill_more, fill_before}
use Rattle.boxes.specs.Boxes.{doubled}
use Rattle.boxes.proofs.double.Goals as goal
use Rattle.boxes.proofs.double.Goals.{At-loop-t}

-- what is read stands before what is stored
read : (l : At-loop-t) (u : ℕ) → l.loop-t.t < l.args.size → u < l.args.to
    → get_or l.loop-t.boxes u 0 ≡ get_or l.args.boxes.now u 0
read l u h k = rw l.loop-t.invariant.0 (fill_before _ _ _ l.loop-t.t u 0 (omega (arith, l.requires.room.1)) k)

-- and is small
small : (l : At-loop-t) (u : ℕ) → let a = l.args in
    l.loop-t.t < a.size → a.from ≤ u → u < a.from + a.below + a.m + a.size → get_or l.loop-t.boxes u 0 ≤ 16383
small l u h i j =
    let k : u < l.args.to = omega (arith, l.requires.room.0) in
    rw (read l u h k) (l.requires.small u i j)

-- so sums of two and of four fit
two : (a b : ℕ) → a ≤ 16383 → b ≤ 16383 → Fits w16 (a + b)
two a b h i = omega arith

four : (a b c d : ℕ) → a ≤ 16383 → b ≤ 16383 → c ≤ 16383 → d ≤ 16383 → Fits w16 (a + b + (c + d))
four a b c d h i j k = omega arith

pub loop-t-init : goal.loop-t-init
loop-t-init c = (fill_none _ _ _, refl)

pub overflow_add-boxes-in-loop-t-3 : goal.overflow_add-boxes-in-loop-t-3
overflow_add-boxes-in-loop-t-3 c = two _ _ (small (goal.at.overflow_add-boxes-in-loop-t-3 c).At-loop-t _ (omega arith) (omega arith) (omega arith)) (small (goal.at.overflow_add-boxes-in-loop-t-3 c).At-loop-t _ (omega arith) (omega arith) (omega arith))

pub overflow_add-boxes-in-loop-t-9 : goal.overflow_add-boxes-in-loop-t-9
overflow_add-boxes-in-loop-t-9 c = two _ _ (small (goal.at.overflow_add-boxes-in-loop-t-9 c).At-loop-t _ (omega arith) (omega arith) (omega arith)) (small (goal.at.overflow_add-boxes-in-loop-t-9 c).At-loop-t _ (omega arith) (omega arith) (omega arith))

pub overflow_add-boxes-in-loop-t-10 : goal.overflow_add-boxes-in-loop-t-10
overflow_add-boxes-in-loop-t-10 c = four _ _ _ _ (small (goal.at.overflow_add-boxes-in-loop-t-10 c).At-loop-t _ (omega arith) (omega arith) (omega arith)) (small (goal.at.overflow_add-boxes-in-loop-t-10 c).At-loop-t _ (omega arith) (omega arith) (omega arith)) (small (goal.at.overflow_add-boxes-in-loop-t-10 c).At-loop-t _ (omega arith) (omega arith) (omega arith)) (small (goal.at.overflow_add-boxes-in-loop-t-10 c).At-loop-t _ (omega arith) (omega arith) (omega arith))

pub loop-t-preserved : goal.loop-t-preserved
loop-t-preserved c =
    let a = c.args in
    let t = c.loop-t.t in
    let more = fill_more a.boxes.now a.to (doubled a.boxes.now a.from a.m a.below) t (omega (arith, c.requires.room.1)) in
    let p = c.requires.room.0 in (
      rw (
        read (goal.at.loop-t-preserved c).At-loop-t (a.from + t) (omega arith) (omega (arith, p)),
        read (goal.at.loop-t-preserved c).At-loop-t (a.from + t + a.m) (omega arith) (omega (arith, p)),
        read (goal.at.loop-t-preserved c).At-loop-t (a.from + a.below + t) (omega arith) (omega (arith, p)),
        read (goal.at.loop-t-preserved c).At-loop-t (a.from + a.below + t + a.m) (omega arith) (omega (arith, p)),
        c.loop-t.invariant.0,
      ) more,
      simp length-set (search rules),
    )
