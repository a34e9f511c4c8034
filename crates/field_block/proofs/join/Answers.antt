-- `join`: count by count; each sum is small.
use Prim.Native.Nat.{ℕ}
use mathlib.Core.Path.{◌≡◌}
use mathlib.Core.List.{List}
use native.Mathlib.Nat.{le_refl}
use native.Mathlib.Omega.{arith}
use lib.ListN.{get_or, drop_of_length-le}
use Rattle.base.specs.Tests.{byte_one}
use Rattle.base.specs.Lists.{list_to, length_list_to, fill_to, fill_none, fill_zero, fill_front, front_behind}
use Rattle.frame.specs.Pictures.{count_number}
use Rattle.field_block.proofs.join.Goals as goal
use Rattle.field_block.proofs.join.Goals.{In-loop-i}

-- the place that comes next is as it was
kept : (d : List ℕ) (g : ℕ → ℕ) (i : ℕ) → get_or (fill_to d 0 g i) i 0 ≡ get_or d i 0
kept d g i = rw (fill_zero d g i) (front_behind (list_to g i) d i i 0 (length_list_to g i) (le_refl i))

next-is : (c : In-loop-i) →
    let l = c.loop-i in
    get_or l.counts l.i 0 ≡ get_or c.args.s.counts l.i 0
next-is c = rw c.loop-i.invariant (kept _ _ _)

pub loop-i-init : goal.loop-i-init
loop-i-init c = fill_none _ 0 _

pub overflow_add-counts : goal.overflow_add-counts
overflow_add-counts c =
    let i = c.loop-i.i in
    rw (next-is c) (omega (arith, c.requires.0.count i, c.requires.1.count i))

pub loop-i-preserved : goal.loop-i-preserved
loop-i-preserved c =
    let l = c.loop-i in
    let h = c.requires.0.long in
    rw (next-is c, l.invariant) (fill_front _ _ l.i (omega (arith, h)))

pub returns : goal.returns
unfolding list_to
returns c =
    let l = c.loop-i in
    let e : l.i ≡ count_number = omega arith in
    rw (l.invariant, e, fill_zero, byte_one c.args.voting, drop_of_length-le c.args.s.counts {i = count_number} (omega (arith, c.requires.0.long)))
