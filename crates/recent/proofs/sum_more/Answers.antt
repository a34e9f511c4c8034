-- `sum_more`: the sum with the new part, less the oldest where that leaves.
use Prim.Native.Nat.{◌≤◌, ◌<◌}
use mathlib.Core.Path.{◌≡◌, sym, ap, ◌∙◌}
use native.Mathlib.Omega.{arith}
use borrow.Author.Rules.{rules, sfits_of}
use lib.IntN.{pos, nat_abs, +ℤ_idr}
use lib.ListN.{length, get_or}
use mir.Syntax.{w32}
use mir.Val.{to_z, of_z}
use mir.Facts.{to_z-of_z}
use Rattle.signed.proofs.Machine.{through}
use Rattle.recent.specs.Recent.{most_held}
use Rattle.recent.proofs.Held.{Kept, kept_yes, kept_small, sum_more, sum_full}
use Rattle.recent.proofs.sum_more.Goals as goal
use Rattle.recent.proofs.sum_more.Goals.{Start}

kept : (s : Start) → Kept s.args.places s.args.held s.args.sum
kept s = kept_yes _ _ _ s.requires.1

small : (s : Start) → nat_abs s.args.sum ≤ 1024
small s =
    let h : length s.args.places ≡ most_held = search rules in
    kept_small _ _ _ h s.requires.0 (kept s)

-- the oldest comes back from its bits unchanged
oldest-is : (s : Start) → 0 < s.args.held → to_z w32 (of_z w32 (get_or s.args.places 0 (pos 0))) ≡ get_or s.args.places 0 (pos 0)
oldest-is s h = through _ ((kept s).within 0 h)

pub exchanged-requires : goal.exchanged-requires
exchanged-requires c =
    rw (to_z-of_z c.ranges.sum, to_z-of_z c.ranges.z) (omega (arith, small (goal.at.exchanged-requires c).Start), omega (arith, c.requires.2), omega arith)

pub returns-then-held-lt-MOST : goal.returns-then-held-lt-MOST
returns-then-held-lt-MOST c =
    let h : length c.args.places ≡ most_held = search rules in
    rw (to_z-of_z {z = c.exchanged.result} (sfits_of {w = w32} c.exchanged.type_inv))
    (rw (to_z-of_z c.ranges.sum, to_z-of_z c.ranges.z, +ℤ_idr) at c.exchanged.ensures
    ∙ rw (kept (goal.at.returns-then-held-lt-MOST c).Start).sum_is (sym (sum_more _ _ _ h c.if-held-lt-MOST.true)))

pub exchanged-requires-2 : goal.exchanged-requires-2
exchanged-requires-2 c =
    rw (to_z-of_z c.ranges.sum, to_z-of_z c.ranges.z)
    (omega (arith, small (goal.at.exchanged-requires-2 c).Start), omega (arith, c.requires.2), omega (arith, ap nat_abs (oldest-is (goal.at.exchanged-requires-2 c).Start (omega arith)), (kept (goal.at.exchanged-requires-2 c).Start).within 0 (omega arith)))

pub returns : goal.returns
returns c =
    let h : length c.args.places ≡ most_held = search rules in
    rw (to_z-of_z {z = c.exchanged-2.result} (sfits_of {w = w32} c.exchanged-2.type_inv))
    (rw (to_z-of_z c.ranges.sum, to_z-of_z c.ranges.z, oldest-is (goal.at.returns c).Start (omega arith)) at c.exchanged-2.ensures
    ∙ rw (kept (goal.at.returns c).Start).sum_is (sym (sum_full _ _ _ h (omega arith))))
