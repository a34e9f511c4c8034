-- `add_rows`: after p turns the first p rows are there.
use Prim.Native.Nat.{ℕ, ◌+◌, ◌*◌, ◌≤◌, ◌<◌}
use mathlib.Core.Path.{sym, ap, ◌∙◌, subst}
use native.Mathlib.Omega.{arith}
use borrow.Author.Rules.{rules}
use lib.ListN.{length, get_or}
use mathlib.Core.List.{List}
use Rattle.base.specs.Lists.{length_fill}
use Rattle.pruned_wide.specs.Wide.{row_squares}
use Rattle.pruned_wide.proofs.Blocks.{first_inside, first_bound, block_first, block_bound, block_more}
use Rattle.pruned_wide.proofs.add_rows.Goals as goal
use Rattle.pruned_wide.proofs.add_rows.Goals.{At-loop-p, Start}

long : (s : Start) → s.args.span ≤ length s.args.numbers.now
long s = omega (arith, s.requires.0, s.requires.1)

older-in : (l : At-loop-p) → l.loop-p.p < l.args.l.k → let a = l.args in
    a.l.at + l.loop-p.p * (a.l.pitch * a.l.m) < length a.boxes.now
older-in l h = let r = l.requires.4.rows l.loop-p.p h in omega (arith, r.older 0 0 r.some l.requires.3)

newer-in : (l : At-loop-p) → l.loop-p.p < l.args.l.k → let a = l.args in
    a.l.own + l.loop-p.p * (a.l.n * a.l.m) < length a.boxes.now
newer-in l h = omega (arith, (l.requires.4.rows l.loop-p.p h).newer 0 l.requires.3)

pub add_row-requires : goal.add_row-requires
add_row-requires c =
    (c.requires.0, c.requires.1, c.requires.2, c.requires.3, first_inside _ _ _ c.requires.4 c.requires.3, λ t ht. omega (arith, first_bound _ _ _ c.requires.4 c.requires.3 t ht))

pub loop-p-init : goal.loop-p-init
loop-p-init c = block_first c.args.boxes.now c.args.l c.args.span c.args.numbers.now _ c.add_row.ensures

pub overflow_mul-p : goal.overflow_mul-p
overflow_mul-p c = let h = older-in (goal.at.overflow_mul-p c).At-loop-p (omega arith) in search rules

pub overflow_add-l : goal.overflow_add-l
overflow_add-l c = let h = older-in (goal.at.overflow_add-l c).At-loop-p (omega arith) in search rules

pub overflow_mul-p-in-loop-p : goal.overflow_mul-p-in-loop-p
overflow_mul-p-in-loop-p c = let h = newer-in (goal.at.overflow_mul-p-in-loop-p c).At-loop-p (omega arith) in search rules

pub overflow_add-l-in-loop-p : goal.overflow_add-l-in-loop-p
overflow_add-l-in-loop-p c = let h = newer-in (goal.at.overflow_add-l-in-loop-p c).At-loop-p (omega arith) in search rules

pub add_row-requires-in-loop-p : goal.add_row-requires-in-loop-p
add_row-requires-in-loop-p c =
    let a = c.args in
    let p = c.loop-p.p in (
      c.requires.0,
      ap length c.loop-p.invariant ∙ length_fill a.numbers.now 0 _ _ (omega (arith, long (goal.at.add_row-requires-in-loop-p c).Start)) ∙ c.requires.1,
      c.requires.2,
      c.requires.3,
      c.requires.4.rows p (omega arith),
      subst (λ (xs : List ℕ). (t : ℕ) → t < a.span
          → get_or xs t 0 + row_squares a.boxes.now (a.l.at + p * (a.l.pitch * a.l.m) + t) (a.l.own + p * (a.l.n * a.l.m)) a.l.m a.l.k ≤ 4294967295) (sym c.loop-p.invariant)
          (block_bound _ _ _ c.requires.4 a.numbers.now (long (goal.at.add_row-requires-in-loop-p c).Start) p (omega arith)),
    )

pub loop-p-preserved : goal.loop-p-preserved
loop-p-preserved c =
    let a = c.args in
    block_more a.boxes.now a.l a.span a.numbers.now (long (goal.at.loop-p-preserved c).Start) c.loop-p.p _ _ c.loop-p.invariant c.add_row-in-loop-p.ensures
