-- `fill`: after i turns the first i keys have their distances.
use Prim.Native.Nat.{ℕ, ◌+◌, ◌/◌, ◌%◌, ◌≤◌, ◌<◌}
use mathlib.Core.Path.{◌≡◌, refl, ap, ap₂, ◌∙◌}
use mathlib.Core.List.{List}
use native.Mathlib.Omega.{arith}
use borrow.Author.Rules.{rules}
use lib.ListN.{length, get_or, set, length-set}
use Rattle.base.specs.Lists.{fill_to, fill_none, fill_front, fill_after}
use Rattle.boxes.specs.Boxes.{level_of}
use Rattle.reach.specs.Reach.{InReach}
use Rattle.pruned_list.specs.Listed.{spot_of, renewed}
use Rattle.pruned_lookup.specs.Lookup.{box_distance, side_of, place_on, looked_up}
use Rattle.pruned_lookup.proofs.Looked.{distanced}
use Rattle.pruned_lookup.proofs.fill.Goals as goal
use Rattle.pruned_lookup.proofs.fill.Goals.{After-renewed, At-loop-i}

-- the level that is looked up
level-is : (l : At-loop-i) → let a = l.args in l.level_of-l.result ≡ level_of a.n (side_of a.m)
level-is l = l.level_of-l.ensures ∙ ap (level_of l.args.n) l.side_of.ensures

-- the next is not stored yet
next-kept : (d : List ℕ) (g : ℕ → ℕ) (i : ℕ) → i ≤ length d → get_or (fill_to d 0 g i) i 0 ≡ get_or d i 0
next-kept d g i h =
    let z : 0 + i + 0 ≡ i = omega arith in
    rw z at (fill_after d 0 g i 0 0 (omega arith))

-- the key of a turn is as it was
key-is : (l : At-loop-i) → l.loop-i.i < l.args.count → get_or l.loop-i.keys l.loop-i.i 0 ≡ get_or l.args.keys.now l.loop-i.i 0
key-is l h =
    ap (λ (k : List ℕ). get_or k l.loop-i.i 0) l.loop-i.invariant.0 ∙ next-kept l.args.keys.now _ l.loop-i.i (omega arith)

-- its candidate is in reach
near-is : (l : At-loop-i) → l.loop-i.i < l.args.count → let k = spot_of (get_or l.loop-i.keys l.loop-i.i 0) in
    InReach l.args.r (k / 64) (k % 64)
near-is l h = rw (key-is l h) (l.requires.reached l.loop-i.i h)

-- what a turn stores
turn : (c : After-renewed) → let a = c.args in
    let k = get_or a.keys.now c.loop-i.i 0 in
    c.renewed.result ≡ renewed k (looked_up a.measure a.boxes.now a.n a.m a.r (spot_of k))
turn c =
    let a = c.args in
    let l = (goal.at.loop-i-preserved c).At-loop-i in
    let key = key-is l c.loop-i-test.true in
    let spot : c.spot_of.result ≡ spot_of (get_or a.keys.now c.loop-i.i 0) =
    c.spot_of.ensures ∙ ap (λ (k : ℕ). spot_of k) key in
    let place = c.place_of-t.ensures.0 ∙ ap (place_on (a.n + 32) a.r) spot in
    let distance =
    c.distance_at.ensures.0
    ∙ ap₂ (box_distance a.measure a.boxes.now a.m) (level-is l) place in
    c.renewed.ensures ∙ ap₂ (λ (k d : ℕ). renewed k d) key distance

pub loop-i-init : goal.loop-i-init
loop-i-init c = (fill_none _ _ _, refl)

pub place_of-t-requires : goal.place_of-t-requires
place_of-t-requires c =
    let k = c.requires.near in
    (rw c.spot_of.ensures (near-is (goal.at.place_of-t-requires c).At-loop-i c.loop-i-test.true), k.1, k.2, omega (arith, k.0.small))

pub loop-i-preserved : goal.loop-i-preserved
loop-i-preserved c =
    let l = c.loop-i in
    let a = c.args in (
      ap₂ (λ (k : List ℕ) (v : ℕ). set k l.i v) l.invariant.0 (turn c)
          ∙ fill_front a.keys.now _ l.i (omega arith),
      simp length-set (search rules),
    )

pub returns : goal.returns
returns c =
    let l = c.loop-i in
    let e : l.i ≡ c.args.count = omega arith in
    let a = c.args in
    let h = rw e at l.invariant.0 in
    (h, distanced a.measure a.boxes.now a.n a.m 0 a.r a.keys.now a.count l.keys c.requires.near.0 c.requires.reached h)
