-- `add_run`: after t turns the first t places have theirs.
use Rattle.std.proofs.Common.{nat_eq}
use Prim.Native.Nat.{ℕ, ◌+◌, ◌*◌, ◌<◌}
use mathlib.Core.Path.{◌≡◌, refl, ap, ap₂, ◌∙◌}
use mathlib.Core.Bool.{not}
use native.Mathlib.Omega.{arith}
use lib.ListN.{get_or}
use mathlib.Core.List.{List}
use Rattle.base.specs.Lists.{fill_none}
use Rattle.base.specs.Sum.{sum_to, sum_to_ext}
use Rattle.boxes.specs.Runs.{carried}
use Rattle.boxes.proofs.Filled.{filled_next, fill_turn}
use Rattle.pruned_wide.specs.Wide.{squared, row_squares}
use Rattle.pruned_wide.proofs.add_run.Given.{Over}
use Rattle.pruned_wide.proofs.add_run.Goals as goal
use Rattle.pruned_wide.proofs.add_run.Goals.{At-loop-t}

module _ (g : Over) (l : At-loop-t g) where
  -- place t is as it was
  next : l.loop-t.t < l.args.span → (r : ℕ) → r ≡ carried (not (nat_eq g.row.FRESH 0)) (get_or l.loop-t.numbers l.loop-t.t 0)
      → r ≡ carried (not (nat_eq g.row.FRESH 0)) (get_or l.args.numbers.now l.loop-t.t 0)
  next h r e =
      e
      ∙ ap (λ (xs : List ℕ). carried (not (nat_eq g.row.FRESH 0)) (get_or xs l.loop-t.t 0)) l.loop-t.invariant
      ∙ ap (carried (not (nat_eq g.row.FRESH 0))) (filled_next _ _ l.loop-t.t (omega (arith, l.requires.0, l.requires.1)))

  -- the block's own squares are those of the array
  same : (r : ℕ) → let a = l.args in
      r ≡ sum_to (λ q. squared (get_or l.run_of_squares-v.result q 0) (get_or a.boxes.now (a.at + l.loop-t.t + a.m * q) 0)) g.row.COUNT
      → r ≡ row_squares a.boxes.now (a.at + l.loop-t.t) a.own a.m g.row.COUNT
  same r e =
      let a = l.args in
      e
      ∙ sum_to_ext _ _ g.row.COUNT (λ q h.
      ap (λ (v : ℕ). squared v (get_or a.boxes.now (a.at + l.loop-t.t + a.m * q) 0)) (l.run_of_squares-v.ensures.1 q h))

pub loop-t-init : goal.loop-t-init
loop-t-init g c = fill_none _ 0 _

pub run_at-requires : goal.run_at-requires
run_at-requires g c =
    let l = (goal.at.run_at-requires g c).At-loop-t in
    (omega (arith, c.requires.2), (λ q h. c.requires.4.older c.loop-t.t q (omega arith) h, omega (arith, same g l _ refl, c.requires.5 c.loop-t.t (omega arith))))

pub overflow_add-numbers : goal.overflow_add-numbers
overflow_add-numbers g c =
    let l = (goal.at.overflow_add-numbers g c).At-loop-t in
    omega (arith, next g l (omega arith) _ c.carried.ensures, same g l _ c.run_at.ensures, c.requires.5 c.loop-t.t (omega arith))

pub loop-t-preserved : goal.loop-t-preserved
loop-t-preserved g c =
    let a = c.args in
    let l = (goal.at.loop-t-preserved g c).At-loop-t in
    fill_turn _ _ (λ i. carried (not (nat_eq g.row.FRESH 0)) (get_or a.numbers.now i 0) + row_squares a.boxes.now (a.at + i) a.own a.m g.row.COUNT) c.loop-t.t _ c.loop-t.invariant
    (ap₂ ◌+◌ (next g l (omega arith) _ c.carried.ensures) (same g l _ c.run_at.ensures))
    (omega (arith, c.requires.0, c.requires.1))
