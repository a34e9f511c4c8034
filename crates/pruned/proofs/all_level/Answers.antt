-- `all_level`: the distances of all, E lowered, and those within its limit.
use Prim.Native.Nat.{◌≤◌}
use mathlib.Core.Path.{sym}
use native.Mathlib.Nat.{le_of_eq}
use lib.ListN.{length}
use Rattle.reach.proofs.Candidates.{ready_standing}
use Rattle.pruned_sift.proofs.Distances.{laid}
use Rattle.pruned.specs.Flow.{dist_of, Distances}
use Rattle.pruned.proofs.Steps.{size_small, side_small, region_small, resolution, span_few, span_some, span_filled, numbered_distances, all_leveled}
use Rattle.pruned.proofs.all_level.Goals as goal
use Rattle.pruned.proofs.all_level.Goals.{After-fill_numbers}

pub span-requires : goal.span-requires
span-requires c = let s = c.requires.0 in let k = region_small s in (size_small s, k.0, k.1, k.2)

pub fill_numbers-requires : goal.fill_numbers-requires
fill_numbers-requires c =
    let p = c.requires in
    let s = p.0 in
    let e = c.span.ensures in
    (s.ready.placed.paired.allowed, resolution s, p.1, span_few s _ e, span_some s _ e, s.room, span_filled s _ e, p.3)

-- the numbers are the distances
distances : (n : After-fill_numbers) → let a = n.args in
    Distances (dist_of a.matching.older.now a.matching.newer.now a.matching.block a.m) a.matching.block n.fill_numbers.new.numbers
distances n =
    numbered_distances n.requires.0 n.span.result n.span.ensures n.fill_numbers.new.numbers n.fill_numbers.ensures.0

-- and all are there
room : (n : After-fill_numbers) → 2088 ≤ length n.fill_numbers.new.numbers
room n = le_of_eq (sym n.fill_numbers.ensures.1)

pub leasts_below-least-requires : goal.leasts_below-least-requires
leasts_below-least-requires c =
    let s = c.requires.0 in
    let a = c.args in
    (size_small s, rw s.region (laid a.matching.block (ready_standing _ _ _ s.ready) a.matching.block.setting.n (size_small s) c.fill_numbers.new.numbers (room (goal.at.leasts_below-least-requires c).After-fill_numbers)))

pub bound_of_all-f-requires : goal.bound_of_all-f-requires
bound_of_all-f-requires c =
    let s = c.requires.0 in
    (s.region, room (goal.at.bound_of_all-f-requires c).After-fill_numbers, distances (goal.at.bound_of_all-f-requires c).After-fill_numbers, c.leasts_below-least.ensures.1)

pub within_all-requires : goal.within_all-requires
within_all-requires c =
    let p = c.requires in
    let s = p.0 in
    (ready_standing _ _ _ s.ready, size_small s, s.region, side_small s, p.1, room (goal.at.within_all-requires c).After-fill_numbers, p.2, c.leasts_below-least.ensures.0)

pub returns : goal.returns
returns c =
    let w = c.within_all.ensures in
    let a = c.args in
    (all_leveled a.matching.older.now a.matching.newer.now a.matching.block a.m a.e _ _ _ c.bound_of_all-f.ensures w.0 (w.2 (dist_of a.matching.older.now a.matching.newer.now a.matching.block a.m) (distances (goal.at.returns c).After-fill_numbers)), w.1, c.fill_numbers.ensures.1)
