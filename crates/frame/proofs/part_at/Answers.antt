-- `part_at`: with d in the window and n at most the side, it is the shift of at by d inside 0 ..= side - n.
use mathlib.Core.Path.{◌≡◌, sym, ◌∙◌}
use mathlib.Core.Bool.{true}
use lib.Dec.{leb}
use lib.IntN.{nat_abs}
use mir.Facts.{to_z-of_z}
use Rattle.base.specs.Tests.{told}
use Rattle.frame.specs.Candidates.{part_far, part_wide, part_shifted}
use Rattle.frame.proofs.part_at.Goals as goal
use Rattle.frame.proofs.part_at.Goals.{Else-not-within}

-- the test of the window, of d itself
near : (d : Else-not-within) → leb (nat_abs d.args.d) d.args.w ≡ true
near d = rw (to_z-of_z d.ranges.d) at (told d.within.ensures d.if-not-within.false)

pub returns-then-not-within : goal.returns-then-not-within
returns-then-not-within c = sym (part_far _ _ _ _ _ (rw (to_z-of_z c.ranges.d) at (told c.within.ensures c.if-not-within.true)))

pub returns-then-side-n : goal.returns-then-side-n
returns-then-side-n c = sym (part_wide _ _ _ _ _ (near (goal.at.returns-then-side-n c).Else-not-within) c.if-side-n.true)

pub returns : goal.returns
returns c =
    let a = c.args in
    (rw (to_z-of_z c.ranges.d) at c.shift.ensures) ∙ sym (part_shifted a.at a.d a.w a.n a.side (near (goal.at.returns c).Else-not-within) c.if-side-n.false)
