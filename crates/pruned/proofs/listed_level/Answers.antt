-- `listed_level`: the distances of those listed, E lowered, and those within its limit.
use mathlib.Core.Path.{◌∙◌}
use Prim.Native.Nat.{◌≤◌}
use native.Mathlib.Omega.{arith}
use lib.ListN.{length}
use lib.Seq.{length-take-le}
use Rattle.pruned_list.proofs.Front.{front_nearest}
use Rattle.pruned.proofs.Steps.{region_small, near_at, facing_in, nearest_in, listed_leveled}
use Rattle.pruned.proofs.listed_level.Goals as goal
use Rattle.pruned.proofs.listed_level.Goals.{After-fill}

pub fill-requires : goal.fill-requires
fill-requires c =
    let p = c.requires in
    let s = p.0 in
    let k = region_small s in
    record { near = (near_at s, k.1, k.2, (p.1.held.listed p.2).0); reached = rw s.region (facing_in s p.1 (p.1.held.listed p.2)) }

-- the listed keys lie in the array
room : (c : After-fill) → c.args.q.count ≤ length c.fill.new.keys
room c = omega (arith, c.fill.auto.keys, (c.requires.1.held.listed c.requires.2).0)

pub bound_of_listed-e-requires : goal.bound_of_listed-e-requires
bound_of_listed-e-requires c =
    let p = c.requires in
    let f = c.fill in
    let h = room (goal.at.bound_of_listed-e-requires c).After-fill in
    (rw (length-take-le c.args.q.count f.new.keys h) p.1.some, rw (front_nearest f.new.keys c.args.q.count h) (nearest_in p.0 p.1 (p.1.held.listed p.2) _ f.auto.keys f.ensures.1))

pub returns : goal.returns
returns c =
    let p = c.requires in
    let f = c.fill in
    let long = f.auto.keys in
    let k = c.keep_within-count in
    let last = k.auto.keys in
    let e = rw (front_nearest f.new.keys c.args.q.count (room (goal.at.returns c).After-fill)) at c.bound_of_listed-e.ensures in
    let leveled = listed_leveled p.0 p.1 (p.1.held.listed p.2) _ long f.ensures.1 _ e _ c.limit.ensures _ _ k.ensures last in
    (leveled.0, last ∙ long)
