-- `minus_travel`: y - d fits 64 bits whatever y and d are; the two tests are those of `moved_by`.
use borrow.Author.Rules.{rules}
use native.Mathlib.Omega.{arith}
use mathlib.Core.Path.{◌≡◌, sym}
use lib.IntN.{ℤ, ◌-ℤ◌, neg_ℤ}
use mir.Syntax.{w32, w64}
use mir.Val.{to_z, of_z}
use mir.Facts.{to_z-of_z, sfits_widen}
use Rattle.signed.specs.Int.{ints, alike, less}
use Rattle.signed.specs.Values.{moved_to, moved_out}
use Rattle.signed.proofs.minus_travel.Goals as goal

pub overflow_cast-s : goal.overflow_cast-s
overflow_cast-s c = search (rules, sfits_widen)

pub overflow_cast-s-2 : goal.overflow_cast-s-2
overflow_cast-s-2 c = search (rules, sfits_widen)

pub overflow_sub-s : goal.overflow_sub-s
overflow_sub-s c =
    rw (to_z-of_z (overflow_cast-s c), to_z-of_z (overflow_cast-s-2 c), to_z-of_z c.ranges.y, to_z-of_z c.ranges.d)
    (omega (arith, less c.args.y c.args.d))

abbrev at64 : ℤ → ℤ
at64 z = to_z w64 (of_z w64 z)

-- what the machine has in s
s-is : (c : goal.Start) → at64 (at64 (to_z w32 (of_z w32 c.args.y)) -ℤ at64 (to_z w32 (of_z w32 c.args.d))) ≡ c.args.y -ℤ c.args.d
s-is c = rw (to_z-of_z (overflow_sub-s c), to_z-of_z (overflow_cast-s c), to_z-of_z (overflow_cast-s-2 c), to_z-of_z c.ranges.y, to_z-of_z c.ranges.d)

pub returns-then-s-ltminus1000000 : goal.returns-then-s-ltminus1000000
returns-then-s-ltminus1000000 c =
    let s = c.before in
    sym (moved_out s.args.y (neg_ℤ s.args.d) (omega (arith, ints, alike (s-is s))))

pub returns-then-s-gt1000000 : goal.returns-then-s-gt1000000
returns-then-s-gt1000000 c =
    let s = c.before.before in
    sym (moved_out s.args.y (neg_ℤ s.args.d) (omega (arith, ints, alike (s-is s))))

pub overflow_cast-result : goal.overflow_cast-result
overflow_cast-result c = rw (s-is c.before.before) (omega (arith, ints, alike (s-is c.before.before)))

pub returns : goal.returns
returns c =
    let s = c.before.before in
    rw (to_z-of_z (overflow_cast-result c), s-is s)
    (sym (moved_to s.args.y (neg_ℤ s.args.d) (omega (arith, ints, alike (s-is s)))))
