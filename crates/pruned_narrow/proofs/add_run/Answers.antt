-- `add_run`: after t turns the first t places have theirs.
use Prim.Native.Nat.{ℕ, ◌+◌, ◌-◌, ◌*◌, ◌<◌}
use mathlib.Core.Path.{◌≡◌, ap, ap₂, ◌∙◌}
use native.Mathlib.Omega.{arith}
use lib.ListN.{get_or}
use mathlib.Core.List.{List}
use Rattle.base.specs.Lists.{fill_none}
use Rattle.base.specs.Sum.{sum_to, sum_to_ext}
use Rattle.boxes.proofs.Filled.{filled_next, fill_turn}
use Rattle.pruned_narrow.proofs.Sums.{minus_le}
use Rattle.pruned_narrow.specs.Narrow.{row_more}
use Rattle.pruned_narrow.proofs.add_run.Goals as goal
use Rattle.pruned_narrow.proofs.add_run.Given.{Over}
use Rattle.pruned_narrow.proofs.add_run.Goals.{At-loop-t}

module _ (g : Over) (l : At-loop-t g) where
  -- place t is as it was
  next : l.loop-t.t < l.args.size → get_or l.loop-t.part l.loop-t.t 0 ≡ get_or l.args.part.now l.loop-t.t 0
  next h = ap (λ (xs : List ℕ). get_or xs l.loop-t.t 0) l.loop-t.invariant ∙ filled_next _ _ l.loop-t.t (omega (arith, l.requires.0, l.requires.1))

  -- what the squares of place t have more
  more : (r : ℕ) → let a = l.args in
      r ≡ sum_to (λ q. get_or a.boxes.now (a.at + l.loop-t.t + a.m * q) 0 - get_or l.run_of_squares-v.result q 0) g.row.COUNT
      → r ≡ row_more a.boxes.now (a.at + l.loop-t.t) a.own a.m g.row.COUNT
  more r e =
      let a = l.args in
      e ∙ sum_to_ext _ _ g.row.COUNT (λ q h. ap (λ (v : ℕ). get_or a.boxes.now (a.at + l.loop-t.t + a.m * q) 0 - v) (l.run_of_squares-v.ensures.1 q h))

pub loop-t-init : goal.loop-t-init
loop-t-init g c = fill_none _ 0 _

pub overflow_add-part : goal.overflow_add-part
overflow_add-part g c =
    let a = c.args in
    let l = (goal.at.overflow_add-part g c).At-loop-t in
    let b = minus_le (λ q. get_or a.boxes.now (a.at + c.loop-t.t + a.m * q) 0) (λ q. get_or a.boxes.now (a.own + a.m * q) 0) g.row.COUNT in
    rw (next g l (omega arith), more g l _ c.surplus.ensures) (omega (arith, b, c.requires.5 c.loop-t.t (omega arith)))

pub loop-t-preserved : goal.loop-t-preserved
loop-t-preserved g c =
    let a = c.args in
    let l = (goal.at.loop-t-preserved g c).At-loop-t in
    fill_turn _ _ (λ i. get_or a.part.now i 0 + row_more a.boxes.now (a.at + i) a.own a.m g.row.COUNT) c.loop-t.t _ c.loop-t.invariant
    (ap₂ ◌+◌ (next g l (omega arith)) (more g l _ c.surplus.ensures)) (omega (arith, c.requires.0, c.requires.1))
