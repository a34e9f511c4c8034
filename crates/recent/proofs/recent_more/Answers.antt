-- `recent_more`: held, places and sums are those of the definition, part by part.
use mathlib.Core.Path.{◌≡◌}
use borrow.Author.Rules.{rules, sfits_of}
use mir.Syntax.{w32}
use mir.Val.{to_z, of_z}
use mir.Facts.{to_z-of_z}
use Rattle.recent.specs.Recent.{recent_more}
use Rattle.recent.proofs.Held.{Whole, whole_yes}
use Rattle.recent.proofs.recent_more.Goals as goal
use Rattle.recent.proofs.recent_more.Goals.{Start}

whole : (s : Start) → Whole s.args.r
whole s = whole_yes _ s.requires.0

pub places_more-requires : goal.places_more-requires
places_more-requires c = (whole (goal.at.places_more-requires c).Start).few

pub places_more-requires-2 : goal.places_more-requires-2
places_more-requires-2 c = (whole (goal.at.places_more-requires-2 c).Start).few

-- the parts come back from their bits unchanged
down_is : (s : Start) → let r = s.args.r in to_z w32 (of_z w32 r.down) ≡ r.down
down_is s = to_z-of_z {w = w32} (search rules)

across-is : (s : Start) → let r = s.args.r in to_z w32 (of_z w32 r.across) ≡ r.across
across-is s = to_z-of_z {w = w32} (search rules)

pub sum_more-requires : goal.sum_more-requires
sum_more-requires c =
    rw (down_is (goal.at.sum_more-requires c).Start, to_z-of_z c.ranges.dy) ((whole (goal.at.sum_more-requires c).Start).few, (whole (goal.at.sum_more-requires c).Start).down, c.requires.1.down)

pub sum_more-requires-2 : goal.sum_more-requires-2
sum_more-requires-2 c =
    rw (across-is (goal.at.sum_more-requires-2 c).Start, to_z-of_z c.ranges.dx) ((whole (goal.at.sum_more-requires-2 c).Start).few, (whole (goal.at.sum_more-requires-2 c).Start).across, c.requires.1.across)

pub returns : goal.returns
unfolding recent_more
returns c =
    rw (
      to_z-of_z {z = c.sum_more.result} (sfits_of {w = w32} c.sum_more.type_inv),
      to_z-of_z {z = c.sum_more-2.result} (sfits_of {w = w32} c.sum_more-2.type_inv),
      c.held_more.ensures,
      c.places_more.ensures,
      c.places_more-2.ensures,
      c.sum_more.ensures,
      c.sum_more-2.ensures,
      to_z-of_z c.ranges.dy,
      to_z-of_z c.ranges.dx,
    )
