-- `add_turned`: after t turns the first t places have their distances.
use Prim.Native.Nat.{ℕ, ◌+◌, ◌<◌}
use mathlib.Core.Path.{◌≡◌, refl, ap, ap₂, ◌∙◌}
use native.Mathlib.Omega.{arith}
use mathlib.Core.List.{List}
use lib.ListN.{get_or}
use Rattle.base.specs.Lists.{fill_none}
use Rattle.boxes.proofs.Filled.{filled_next, fill_turn}
use Rattle.boxes.specs.Runs.{carried}
use Rattle.pruned_narrow.specs.Narrow.{turned}
use Rattle.pruned_narrow.proofs.add_turned.Goals as goal
use Rattle.pruned_narrow.proofs.add_turned.Goals.{At-loop-t}

-- place t is as it was
next : (l : At-loop-t) → l.loop-t.t < l.args.size → get_or l.loop-t.numbers l.loop-t.t 0 ≡ get_or l.args.numbers.now l.loop-t.t 0
next l h = ap (λ (xs : List ℕ). get_or xs l.loop-t.t 0) l.loop-t.invariant ∙ filled_next _ _ l.loop-t.t (omega (arith, l.requires.0, l.requires.2))

pub loop-t-init : goal.loop-t-init
loop-t-init c = fill_none _ 0 _

-- what place t had counts for
before : (l : At-loop-t) (r : ℕ) → l.loop-t.t < l.args.size → r ≡ carried l.args.fresh (get_or l.loop-t.numbers l.loop-t.t 0)
    → r ≡ carried l.args.fresh (get_or l.args.numbers.now l.loop-t.t 0)
before l r h e = e ∙ ap (carried l.args.fresh) (next l h)

pub overflow_add-numbers : goal.overflow_add-numbers
overflow_add-numbers c =
    let k = c.requires.4 c.loop-t.t (omega arith) in
    omega (arith, before (goal.at.overflow_add-numbers c).At-loop-t _ (omega arith) c.carried.ensures, c.requires.5 c.loop-t.t (omega arith), k.2)

pub loop-t-preserved : goal.loop-t-preserved
loop-t-preserved c =
    (fill_turn _ _ (λ i. let a = c.args in carried a.fresh (get_or a.numbers.now i 0) + turned (get_or a.part.now i 0) (get_or a.boxes.now (a.whole + i) 0) a.v) c.loop-t.t _ c.loop-t.invariant (ap₂ ◌+◌ (before (goal.at.loop-t-preserved c).At-loop-t _ (omega arith) c.carried.ensures) refl) (omega (arith, c.requires.0, c.requires.2)))
