-- `fill_from_pels`: a turn has twice the m (`Walk`).
use Prim.Native.Nat.{ℕ, ◌+◌, ◌≤◌, ◌<◌, min}
use mathlib.Core.Path.{◌≡◌, ap, sym, ◌∙◌, subst}
use mathlib.Core.List.{List}
use native.Mathlib.Omega.{arith}
use lib.ListN.{length, get_or}
use Rattle.refusals.specs.Refusals.{block_size}
use Rattle.boxes.proofs.Walk.{walk_first, walk_more, walk_last, window_small, one_small, walk_turn, Turn, one_long}
use Rattle.boxes.proofs.Rooms.{square_small}
use Rattle.boxes.proofs.fill_from_pels.Goals as goal
use Rattle.boxes.proofs.fill_from_pels.Goals.{At-loop-m}

-- where a turn reads and stores
turn : (l : At-loop-m) → l.loop-m.m < min l.args.n 16 → let a = l.args in
    Turn a.n a.span l.loop-m.from l.loop-m.m (length l.loop-m.boxes)
turn l more = let p = l.requires in walk_turn _ _ _ p.0 p.1 p.2 p.3 _ _ _ l.loop-m.invariant more

pub overflow_add-pitch : goal.overflow_add-pitch
overflow_add-pitch c = omega (arith, (block_size c.args.n c.requires.0).most)

pub area-next-requires : goal.area-next-requires
area-next-requires c = (block_size c.args.n c.requires.0).most

pub overflow_mul-window : goal.overflow_mul-window
overflow_mul-window c = omega (arith, square_small (c.args.n + 32) 64 (omega (arith, (block_size c.args.n c.requires.0).most)))

pub loop-m-init : goal.loop-m-init
loop-m-init c = walk_first _ _ _ (omega (arith, (block_size c.args.n c.requires.0).least))

pub overflow_sub-rest : goal.overflow_sub-rest
overflow_sub-rest c = omega (arith, turn (goal.at.overflow_sub-rest c).At-loop-m (omega arith), c.area-next.ensures)

pub overflow_mul-pitch : goal.overflow_mul-pitch
overflow_mul-pitch c = omega (arith, turn (goal.at.overflow_mul-pitch c).At-loop-m (omega arith), c.area-next.ensures)

pub overflow_add-pitch-in-loop-m : goal.overflow_add-pitch-in-loop-m
overflow_add-pitch-in-loop-m c = omega (arith, turn (goal.at.overflow_add-pitch-in-loop-m c).At-loop-m (omega arith), c.area-next.ensures)

pub overflow_mul-pitch-in-loop-m : goal.overflow_mul-pitch-in-loop-m
overflow_mul-pitch-in-loop-m c = omega (arith, turn (goal.at.overflow_mul-pitch-in-loop-m c).At-loop-m (omega arith), c.area-next.ensures)

pub overflow_add-span : goal.overflow_add-span
overflow_add-span c = omega (arith, turn (goal.at.overflow_add-span c).At-loop-m (omega arith), c.area-next.ensures)

pub double-requires : goal.double-requires
double-requires c =
    let p = c.requires in
    let t = turn (goal.at.double-requires c).At-loop-m (omega arith) in
    let a = c.area-next.ensures in
    record {
      room = (omega (arith, t, a), omega (arith, t, a));
      small = λ u h i. window_small _ _ _ p.0 p.1 p.2 p.3 _ _ _ c.loop-m.invariant (omega arith) u h i;
    }

pub overflow_add-from-in-loop-m : goal.overflow_add-from-in-loop-m
overflow_add-from-in-loop-m c = omega (arith, turn (goal.at.overflow_add-from-in-loop-m c).At-loop-m (omega arith), c.area-next.ensures)

pub overflow_mul-n : goal.overflow_mul-n
overflow_mul-n c = omega (arith, turn (goal.at.overflow_mul-n c).At-loop-m (omega arith), c.area-next.ensures)

pub overflow_add-from-in-loop-m-2 : goal.overflow_add-from-in-loop-m-2
overflow_add-from-in-loop-m-2 c = omega (arith, turn (goal.at.overflow_add-from-in-loop-m-2 c).At-loop-m (omega arith), c.area-next.ensures)

pub overflow_add-from-in-loop-m-3 : goal.overflow_add-from-in-loop-m-3
overflow_add-from-in-loop-m-3 c = omega (arith, turn (goal.at.overflow_add-from-in-loop-m-3 c).At-loop-m (omega arith), c.area-next.ensures)

pub overflow_add-n : goal.overflow_add-n
overflow_add-n c = omega (arith, turn (goal.at.overflow_add-n c).At-loop-m (omega arith), c.area-next.ensures)

pub overflow_mul-n-in-loop-m : goal.overflow_mul-n-in-loop-m
overflow_mul-n-in-loop-m c = omega (arith, turn (goal.at.overflow_mul-n-in-loop-m c).At-loop-m (omega arith), c.area-next.ensures)

pub overflow_add-n-in-loop-m : goal.overflow_add-n-in-loop-m
overflow_add-n-in-loop-m c = omega (arith, turn (goal.at.overflow_add-n-in-loop-m c).At-loop-m (omega arith), c.area-next.ensures)

pub double-requires-in-loop-m : goal.double-requires-in-loop-m
double-requires-in-loop-m c =
    let p = c.requires in
    let t = turn (goal.at.double-requires-in-loop-m c).At-loop-m (omega arith) in
    let a = c.area-next.ensures in
    let d = c.double in
    let one = rw a at d.ensures in
    let long : length d.new.boxes ≡ length c.loop-m.boxes =
    ap length one ∙ one_long _ _ _ p.0 p.1 p.2 p.3 _ _ _ c.loop-m.invariant (omega arith) in
    record {
      room = (omega (arith, t, a), omega (arith, t, a, long));
      small = λ u h i.
          subst (λ (xs : List ℕ). get_or xs u 0 ≤ 16383) (sym one)
          (one_small _ _ _ p.0 p.1 p.2 p.3 _ _ _ c.loop-m.invariant (omega arith) u h i);
    }

pub loop-m-preserved : goal.loop-m-preserved
loop-m-preserved c =
    let p = c.requires in
    let a = c.area-next.ensures in
    let one = rw a at c.double.ensures in
    let two = rw (a, one) at c.double-in-loop-m.ensures in
    rw (a, two) (walk_more _ _ _ p.0 p.1 p.2 p.3 _ _ _ c.loop-m.invariant (omega arith))

pub returns : goal.returns
returns c = let w = c.loop-m.invariant in (walk_last _ _ _ _ _ _ w (omega arith), w.kept)
