-- `add_block`: after p turns the first p rows are there.
use Prim.Native.Nat.{ℕ, ◌+◌, ◌*◌, ◌≤◌, ◌<◌}
use mathlib.Core.Path.{◌≡◌, sym, ap, ◌∙◌, subst}
use native.Mathlib.Omega.{arith}
use lib.ListN.{length, get_or, length-replicate}
use mathlib.Core.List.{List}
use Rattle.base.specs.Lists.{length_fill}
use Rattle.boxes.specs.Runs.{places, carried, Inside}
use Rattle.pruned_narrow.specs.Narrow.{row_sum, turned}
use native.Mathlib.Nat.{zero-mul}
use Rattle.base.specs.Index.{row_next, row_fits}
use Rattle.pruned_narrow.proofs.Whole.{zeros, stored, block_first, block_bound, block_more, turn_fits, turn_is}
use Rattle.pruned_narrow.proofs.add_block.Goals as goal
use Rattle.pruned_narrow.proofs.add_block.Goals.{At-loop-p, Start}

rows-length : (s : Start) (p : ℕ) (xs : List ℕ) → xs ≡ (let a = s.args in stored a.boxes.now a.l a.k a.at a.own a.w a.size s.requires.0 s.requires.3) p → length xs ≡ places
rows-length s p xs e =
    ap length e ∙ length_fill zeros 0 _ _ (omega (arith, length-replicate {A = ℕ} places 0, s.requires.0)) ∙ length-replicate {A = ℕ} places 0

-- the places of one row more are small
room : (l : At-loop-p) → l.loop-p._p < l.args.k → let a = l.args in
    (a.l.at + a.at + l.loop-p._p * (a.l.pitch * a.l.m) + a.l.pitch * a.l.m ≤ 1000000)
    × (a.l.own + a.own + l.loop-p._p * (a.l.n * a.l.m) + a.l.n * a.l.m ≤ 1000000)
room l h =
    let a = l.args in
    let e = l.requires.3.small in
    let x = row_fits l.loop-p._p (a.k + 1) (a.l.pitch * a.l.m) (omega arith) in
    let y = row_fits l.loop-p._p (a.k + 1) (a.l.n * a.l.m) (omega arith) in
    (omega (arith, e, x), omega (arith, e, y))

-- all rows are there
ended : (l : At-loop-p) → l.loop-p._p ≡ l.args.k → l.loop-p.part ≡ (let a = l.args in stored a.boxes.now a.l a.k a.at a.own a.w a.size l.requires.0 l.requires.3) l.args.k
ended l e = l.loop-p.invariant.2 ∙ ap (let a = l.args in stored a.boxes.now a.l a.k a.at a.own a.w a.size l.requires.0 l.requires.3) e

pub loop-p-init : goal.loop-p-init
loop-p-init c =
    let l = c.args.l in
    (omega (arith, zero-mul (l.pitch * l.m)), omega (arith, zero-mul (l.n * l.m)), block_first _ _ _ _ _ _ _ c.requires.0 c.requires.3)

pub add_row-requires : goal.add_row-requires
add_row-requires c =
    let a = c.args in (
      c.requires.0,
      rows-length (goal.at.add_row-requires c).Start c.loop-p._p _ c.loop-p.invariant.2,
      c.requires.2,
      subst (λ (x : ℕ). Inside a.boxes.now x c.loop-p.o a.l.m a.k a.size) (sym c.loop-p.invariant.0)
          (subst (λ (y : ℕ). Inside a.boxes.now (a.l.at + a.at + c.loop-p._p * (a.l.pitch * a.l.m)) y a.l.m a.k a.size) (sym c.loop-p.invariant.1) (c.requires.3.rows c.loop-p._p (omega arith))),
      subst (λ (x : ℕ). (t : ℕ) → t < a.size → get_or c.loop-p.part t 0 + row_sum a.boxes.now (x + t) a.l.m a.k ≤ 65535) (sym c.loop-p.invariant.0)
          (subst (λ (xs : List ℕ). (t : ℕ) → t < a.size → get_or xs t 0 + row_sum a.boxes.now (a.l.at + a.at + c.loop-p._p * (a.l.pitch * a.l.m) + t) a.l.m a.k ≤ 65535) (sym c.loop-p.invariant.2)
          (block_bound _ _ _ _ _ _ _ c.requires.0 c.requires.3 c.loop-p._p (omega arith))),
    )

pub overflow_add-a-in-loop-p : goal.overflow_add-a-in-loop-p
overflow_add-a-in-loop-p c = omega (arith, room (goal.at.overflow_add-a-in-loop-p c).At-loop-p (omega arith), c.loop-p.invariant.0)

pub overflow_add-o-in-loop-p : goal.overflow_add-o-in-loop-p
overflow_add-o-in-loop-p c = omega (arith, room (goal.at.overflow_add-o-in-loop-p c).At-loop-p (omega arith), c.loop-p.invariant.1)

pub loop-p-preserved : goal.loop-p-preserved
loop-p-preserved c =
    let a = c.args in
    let p = c.loop-p._p in (
      omega (arith, row_next p (a.l.pitch * a.l.m), c.loop-p.invariant.0),
      omega (arith, row_next p (a.l.n * a.l.m), c.loop-p.invariant.1),
      block_more _ _ _ _ _ _ _ c.requires.0 c.requires.3 p _ _ _ _ c.loop-p.invariant.0 c.loop-p.invariant.1 c.loop-p.invariant.2 c.add_row.ensures,
    )

pub bounds-boxes-w : goal.bounds-boxes-w
bounds-boxes-w c = c.requires.3.newer_room

pub add_turned-requires : goal.add_turned-requires
add_turned-requires c =
    let a = c.args in
    let e = ended (goal.at.add_turned-requires c).At-loop-p (omega arith) in (
      c.requires.0,
      rows-length (goal.at.add_turned-requires c).Start a.k _ e,
      c.requires.1,
      c.requires.3.older_room,
      subst (λ (xs : List ℕ). (t : ℕ) → t < a.size → (get_or xs t 0 ≤ get_or a.boxes.now (a.w.at + a.at + t) 0)
          × (get_or a.boxes.now (a.w.at + a.at + t) 0 ≤ get_or xs t 0 + get_or a.boxes.now (a.w.own + a.own) 0)
          × (turned (get_or xs t 0) (get_or a.boxes.now (a.w.at + a.at + t) 0) (get_or a.boxes.now (a.w.own + a.own) 0) ≤ 65535)) (sym e)
          (turn_fits _ _ _ _ _ _ _ c.requires.0 c.requires.3),
      c.requires.4,
    )

pub returns : goal.returns
returns c =
    turn_is _ _ _ _ _ _ _ c.requires.0 c.requires.3 _ _ _ (λ t. carried c.args.fresh (get_or c.args.numbers.now t 0)) (ended (goal.at.returns c).At-loop-p (omega arith)) c.add_turned.ensures
