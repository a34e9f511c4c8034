-- The definitions as the code works them out: step 1 without its centre; a centre that stays, or moves.
use mathlib.Core.Path.{◌≡◌, ap}
use mathlib.Core.Bool.{true, false}
use mathlib.Core.List.{[], ◌∷◌}
use Rattle.order.specs.declared.Vector.{Vector}
use Rattle.search.specs.Target.{Target}
use Rattle.order.specs.Vectors.{same?}
use Rattle.probe.specs.Probe.{origin, Seen, probe, at_origin, around, is_in, fresh}
use Rattle.four_step.specs.FourStep.{square, moved, step1, step23, step4, from3, from2}

-- step 1 is the square without its centre, around (0,0)
pub step1_is : (t : Target) (s : Seen) → s ≡ at_origin t → probe t s (around s.best (fresh (origin ∷ []) square)) ≡ step1 t
unfolding step1 moved at_origin fresh is_in around square
step1_is t s e = ap (λ q. probe t q (around q.best (fresh (origin ∷ []) square))) e

module _ (t : Target) (c : Vector) (s : Seen) where
  pub from3_stays : same? s.best c ≡ true → step4 t s ≡ from3 t c s
  unfolding from3
  from3_stays e = rw e

  pub from3_moves : same? s.best c ≡ false → step4 t (step23 t c s) ≡ from3 t c s
  unfolding from3
  from3_moves e = rw e

  pub from2_stays : same? s.best c ≡ true → step4 t s ≡ from2 t c s
  unfolding from2
  from2_stays e = rw e

  pub from2_moves : same? s.best c ≡ false → from3 t s.best (step23 t c s) ≡ from2 t c s
  unfolding from2
  from2_moves e = rw e
