-- `fill_32`: after t turns the first t places have their distances.
use Prim.Native.Nat.{ℕ, ◌+◌, ◌*◌, ◌<◌}
use mathlib.Core.Path.{◌≡◌, ap}
use native.Mathlib.Omega.{arith}
use lib.ListN.{length}
use Rattle.base.specs.Lists.{fill_none}
use Rattle.boxes.specs.Boxes.{area, level_at, own_at, level_of}
use Rattle.boxes.specs.declared.Level.{Level}
use Rattle.boxes.proofs.Rooms.{log2_power, area_is}
use Rattle.boxes.proofs.Filled.{fill_turn}
use Rattle.pruned_narrow.specs.Narrow.{whole_at}
use Rattle.pruned_narrow.proofs.fill_32.Goals as goal
use Rattle.pruned_narrow.proofs.fill_32.Goals.{Start}

-- the boxes of two whole blocks lie in the array
places_in : (s : Start) (t : ℕ) → t < 2081
    → (own_at 32 16 + 512 + 16 < length s.args.boxes.now) × (level_at 32 16 + t + 1024 + 16 < length s.args.boxes.now)
places_in s t h =
    let e = ap (λ (k : ℕ). k * area 32) (log2_power 4 (omega arith)) in
    let a = area_is 32 in
    (omega (arith, e, a, s.requires.1), omega (arith, e, a, s.requires.1))

pub whole_32-v-requires : goal.whole_32-v-requires
whole_32-v-requires c = rw c.level_of-h.ensures (places_in (goal.at.whole_32-v-requires c).Start 0 (omega arith)).0

pub loop-t-init : goal.loop-t-init
loop-t-init c = fill_none _ 0 _

-- the place t is inside
inside : (s : Start) (l : Level) (t : ℕ) → l ≡ level_of 32 16 → t < s.args.size → l.at + t + 1024 + 16 < length s.args.boxes.now
inside s l t e h = rw e (places_in s t (omega (arith, s.requires.0))).1

pub whole_32-requires : goal.whole_32-requires
whole_32-requires c = inside (goal.at.whole_32-requires c).Start _ _ c.level_of-h.ensures (omega arith)

pub loop-t-preserved : goal.loop-t-preserved
loop-t-preserved c =
    let e = rw (c.whole_32-v.ensures, c.whole_32.ensures, c.level_of-h.ensures) at c.abs_diff.ensures in
    (fill_turn _ _ (whole_at c.args.boxes.now) c.loop-t.t _ c.loop-t.invariant e (omega (arith, c.requires.0, c.requires.2)))
