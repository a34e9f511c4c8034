-- `tests`: a test at each resolution until one candidate remains, then the answer.
use Prim.Native.Nat.{ℕ, ◌-◌, ◌/◌, ◌≤◌}
use mathlib.Core.Path.{◌≡◌, refl, ap, ◌∙◌}
use mathlib.Core.Logic.{⊎_elim}
use native.Mathlib.Omega.{arith}
use lib.ListN.{length, length-replicate}
use Rattle.reach.proofs.Candidates.{ready_standing}
use Rattle.pruned_rule.specs.Spots.{places_of}
use Rattle.pruned.proofs.Flow.{first_facing}
use Rattle.pruned.proofs.Steps.{size_small}
use Rattle.pruned.proofs.Rounds.{next_either, total_places, places_few, turning_first, turning_search, turning_facing, turning_more, turning_few}
use Rattle.pruned.proofs.Rounds.{turning_closing, turning_last}
use Rattle.pruned.proofs.tests.Goals as goal
use Rattle.pruned.proofs.tests.Goals.{After-begin-first}

pub begin-first-requires : goal.begin-first-requires
begin-first-requires c = let p = c.requires in (ready_standing _ _ _ p.0.ready, size_small p.0, p.0.region, p.1)

-- how many candidates there are
total-is : (c : After-begin-first) → c.begin-first.result.count ≡ length (places_of c.args.matching.block)
total-is c = total_places c.requires.0 _ _ _ c.begin-first.ensures.0

pub first_slot-slot-requires : goal.first_slot-slot-requires
first_slot-slot-requires c = c.requires.0.ready.placed.paired.allowed

pub overflow_cast-counts : goal.overflow_cast-counts
overflow_cast-counts c = omega (arith, total-is (goal.at.overflow_cast-counts c).After-begin-first, places_few c.requires.0)

pub level-q-requires : goal.level-q-requires
level-q-requires c =
    let e = c.begin-first.ensures in (
      c.requires.0,
      first_facing c.args.matching.older.now c.args.matching.newer.now c.args.matching.block _ _ (omega (arith, total-is (goal.at.level-q-requires c).After-begin-first, places_few c.requires.0)) e.0,
      omega (arith, e.2, c.requires.1.0),
      length-replicate {A = ℕ} 2088 0,
    )

pub loop-m-init : goal.loop-m-init
loop-m-init c =
    let e = c.begin-first.ensures in
    let l = c.level-q.ensures in
    let long = l.1 ∙ e.2 in
    (turning_first c.requires.0 _ _ _ _ (e.1 ∙ c.requires.2) l.0 (next_either _ _ _ c.next-m.ensures) c.first_slot-slot.ensures (total-is (goal.at.loop-m-init c).After-begin-first) (omega (arith, long, c.requires.1.0)) l.2, total-is (goal.at.loop-m-init c).After-begin-first, refl)

-- a turn
pub overflow_cast-counts-in-loop-m : goal.overflow_cast-counts-in-loop-m
overflow_cast-counts-in-loop-m c = let t = c.loop-m.invariant.0 in omega (arith, turning_few t, places_few t.block)

pub level-q-requires-in-loop-m : goal.level-q-requires-in-loop-m
level-q-requires-in-loop-m c =
    let t = c.loop-m.invariant.0 in
    let h : 2 ≤ c.loop-m.m = omega (arith, c.loop-m-test.true) in
    (turning_search t h, turning_facing t h, t.room, t.numbers_long)

pub loop-m-smaller : goal.loop-m-smaller
loop-m-smaller c =
    let h : 2 ≤ c.loop-m.m = omega (arith, c.loop-m-test.true) in
    ⊎_elim (λ (e : c.next-m-in-loop-m.result ≡ c.loop-m.m / 2). omega (arith, e, h)) (λ (e : (c.next-m-in-loop-m.result ≡ 1) × (c.level-q-in-loop-m.result.count ≡ 1)). omega (arith, e.0, h)) (next_either _ _ _ c.next-m-in-loop-m.ensures)

pub loop-m-preserved : goal.loop-m-preserved
loop-m-preserved c =
    let i = c.loop-m.invariant in
    let l = c.level-q-in-loop-m.ensures in
    (turning_more i.0 (omega (arith, c.loop-m-test.true)) _ l.0 (next_either _ _ _ c.next-m-in-loop-m.ensures) (omega (arith, l.1, i.0.room)) l.2, i.1, l.1 ∙ i.2)

-- the answer
pub fill_counts-all-requires : goal.fill_counts-all-requires
fill_counts-all-requires c =
    let t = c.loop-m.invariant.0 in
    (t.going.slots.long, omega (arith, t.going.slots.ahead), omega (arith, turning_few t, places_few t.block))

pub overflow_sub-total : goal.overflow_sub-total
overflow_sub-total c = let i = c.loop-m.invariant in omega (arith, turning_few i.0, i.1)

pub overflow_cast-total : goal.overflow_cast-total
overflow_cast-total c = let i = c.loop-m.invariant in omega (arith, places_few i.0.block, i.1)

pub answer-requires : goal.answer-requires
answer-requires c = turning_closing c.loop-m.invariant.0

pub shape_of-keys : goal.shape_of-keys
shape_of-keys c = c.loop-m.invariant.2 ∙ c.level-q.ensures.1 ∙ c.begin-first.ensures.2

pub returns : goal.returns
returns c =
    let i = c.loop-m.invariant in
    c.answer.ensures
    ∙ turning_last i.0 (omega (arith, c.loop-m-test.false)) _ _ c.fill_counts-all.ensures (ap (λ (t : ℕ). t - c.loop-m.q.count) i.1)
