-- `fill`: the boxes of a block are what each case needs, and what it leaves are the distances.
use Prim.Native.Nat.{ℕ, ◌+◌, ◌*◌, ◌/◌, ◌≤◌}
use mathlib.Core.Path.{◌≡◌, sym, ap, subst, ◌∙◌}
use native.Mathlib.Omega.{arith}
use native.Mathlib.Nat.{add-zero, zero-add}
use mathlib.Core.List.{List}
use lib.ListN.{length}
use Rattle.base.specs.Lists.{fill_to}
use Rattle.boxes.specs.Boxes.{Cut, area, level_at, own_at, level_of, Filled}
use Rattle.boxes.specs.Distances.{Numbered}
use Rattle.boxes.specs.declared.Level.{Level}
use Rattle.boxes.proofs.Rooms.{cut_whole}
use Rattle.boxes.proofs.Runs.{parts}
use Rattle.boxes.specs.Runs.{Runs}
use Rattle.pruned_narrow.specs.Narrow.{Squared, distance_of, distance_at, number_of}
use Rattle.pruned_narrow.proofs.Levels.{squared}
use Rattle.pruned_narrow.proofs.Numbers.{number_whole, number_other, whole_large, other_cut, small, numbered}
use Rattle.pruned_narrow.proofs.fill.Goals as goal
use Rattle.pruned_narrow.proofs.fill.Goals.{Else-n-eq32, Start}

module _ (s : Start) where
  abbrev n : ℕ
  n = s.args.n

  abbrev m : ℕ
  m = s.args.m

  abbrev boxes : List ℕ
  boxes = s.args.boxes.now

  abbrev numbers : List ℕ
  numbers = s.args.numbers.now

  -- of N 32
  large-room : n ≡ 32 → (s.args.span ≤ 2081) × (5 * area 32 ≤ length boxes) × Filled 32 s.args.span boxes
  large-room e =
      (omega (arith, s.requires.2), subst (λ (x : ℕ). 5 * area x ≤ length boxes) e s.requires.4, subst (λ (x : ℕ). Filled x s.args.span boxes) e s.requires.5)

  done : (n ≤ 32) → (xs : List ℕ) (g : ℕ → ℕ) → ((t : ℕ) → g t ≡ number_of boxes n m t) → xs ≡ fill_to numbers 0 g s.args.span
      → (xs ≡ fill_to numbers 0 (number_of boxes n m) s.args.span) × Numbered 1 boxes n m s.args.span xs
  done h xs g is e = numbered boxes numbers xs n m s.args.span g s.requires.1 (omega (arith, s.requires.2, s.requires.6)) is e

  -- of N up to 16: what the two levels are
  module _ (h : n ≤ 16) (cut : Cut n m) (l w : Level) (e : l ≡ level_of n m) (f : w ≡ level_of n n) where
    ready : Runs l.k × Squared boxes l l.k 0 0 w s.args.span
    ready =
        let p = s.requires in
        let c = parts n p.0 m cut in
        rw (e, f) (
          c.runs,
          squared n m n (n / m) 0 0 0 0 s.args.span _ (omega arith) h cut (cut_whole n p.0 h) c.whole (omega arith) (omega arith)
              (omega arith) (omega arith) p.3 p.2 p.4 p.5,
        )

    is-distance : (t : ℕ) → 0 + distance_of boxes (l.at + 0) (l.pitch * l.m) (l.own + 0) (l.n * l.m) l.m l.k t ≡ number_of boxes n m t
    is-distance t =
        rw (zero-add, e, add-zero (level_at n m), add-zero (own_at n m)) (sym (number_other boxes n m cut t))

pub fill_32-requires : goal.fill_32-requires
fill_32-requires c =
    let r = large-room (goal.at.fill_32-requires c).Start (whole_large _ _ c.requires.1 c.if-m-eq32.true) in
    (r.0, r.1, c.requires.6)

pub returns-then-m-eq32 : goal.returns-then-m-eq32
returns-then-m-eq32 c =
    let e = c.if-m-eq32.true in
    done (goal.at.returns-then-m-eq32 c).Start (omega (arith, whole_large _ _ c.requires.1 e)) _ _ (λ t. sym (number_whole c.args.boxes.now c.args.n c.args.m e t)) c.fill_32.ensures

pub fill_quarters-requires : goal.fill_quarters-requires
fill_quarters-requires c =
    let e = c.if-n-eq32.true in
    let r = large-room (goal.at.fill_quarters-requires c).Start e in
    (subst (λ (x : ℕ). Cut x c.args.m) e (other_cut _ _ c.requires.1 c.if-m-eq32.false), r.0, c.requires.3, r.1, r.2, c.requires.6)

pub returns-then-n-eq32 : goal.returns-then-n-eq32
returns-then-n-eq32 c =
    let e = c.if-n-eq32.true in
    let cut = other_cut c.args.n c.args.m c.requires.1 c.if-m-eq32.false in
    done (goal.at.returns-then-n-eq32 c).Start (omega (arith, e)) _ _ (λ t. sym (number_other c.args.boxes.now c.args.n c.args.m cut t ∙ ap (λ (x : ℕ). distance_at c.args.boxes.now x c.args.m t) e)) c.fill_quarters.ensures

-- neither is 32
rest : (c : Else-n-eq32) → (c.args.n ≤ 16) × Cut c.args.n c.args.m
rest c = (small _ c.requires.0 c.if-n-eq32.false, other_cut _ _ c.requires.1 c.if-m-eq32.false)

pub level_of-l-requires : goal.level_of-l-requires
level_of-l-requires c = let r = rest c in (omega (arith, r.0), r.1)

pub level_of-requires : goal.level_of-requires
level_of-requires c = let r = rest (goal.at.level_of-requires c).Else-n-eq32 in (omega (arith, r.0), cut_whole _ c.requires.0 r.0)

pub add_block-requires : goal.add_block-requires
add_block-requires c =
    let q = rest (goal.at.add_block-requires c).Else-n-eq32 in
    let r = ready (goal.at.add_block-requires c).Start q.0 q.1 _ _ c.level_of-l.ensures c.level_of.ensures in
    (omega (arith, c.requires.2, q.0), c.requires.6, r.0, r.1, λ t h. omega arith)

pub returns : goal.returns
returns c =
    let q = rest (goal.at.returns c).Else-n-eq32 in
    done (goal.at.returns c).Start (omega (arith, q.0)) _ _ (is-distance (goal.at.returns c).Start q.0 q.1 _ _ c.level_of-l.ensures c.level_of.ensures) c.add_block.ensures
