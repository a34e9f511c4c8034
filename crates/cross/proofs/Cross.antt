-- Cross over any target: each step probes a list of points, so it reports the distortion of its own vector; each pass and the last cross have four points,
-- and there are log2 w - 1 passes before the one at p = 1.
use Prim.Native.Nat.{ℕ, zero, suc, ◌+◌, ◌-◌, ◌*◌, ◌/◌, ◌≤◌}
use mathlib.Core.Path.{◌≡◌, refl, ap}
use mathlib.Core.Bool.{Bool, true, false, cond}
use mathlib.Core.List.{List, [], ◌∷◌}
use native.Mathlib.Omega.{arith}
use lib.Dec.{T, ltb, leb}
use lib.ListN.{length}
use Rattle.base.specs.Tests.{true_T}
use Rattle.order.specs.declared.Vector.{Vector}
use Rattle.frame.specs.Pictures.{Pair}
use Rattle.frame.specs.Candidates.{still_candidate}
use Rattle.refusals.specs.Cross.{cross_window, log2}
use Rattle.distortion.specs.Blocks.{distortion}
use Rattle.search.specs.Target.{Target, target}
use Rattle.search.specs.Exhaustive.{Best}
use Rattle.probe.specs.Probe.{origin, Seen, at_origin, around, widened, OwnDistortion}
use Rattle.probe.proofs.Probe.{probe_own_distortion, at_origin_own_distortion, never_lower, probe_count, length_around}
use Rattle.cross.specs.Cross.{diagonal_cross, plus_cross, pass, all_passes, on_diagonal, ended, finished, cross}
use Rattle.cross.proofs.Passes.{passes_in, passes_many, log2_some}

-- ---- its own distortion

module _ (t : Target) where
  pass_own_distortion : (p : ℕ) (s : Seen) → OwnDistortion t s → OwnDistortion t (pass t p s)
  unfolding pass
  pass_own_distortion p s h = probe_own_distortion t s (around s.best (widened p diagonal_cross)) h

  passes_own_distortion : (n p : ℕ) (s : Seen) → OwnDistortion t s → OwnDistortion t (all_passes n t p s)
  unfolding all_passes
  passes_own_distortion zero p s h = h
  passes_own_distortion (suc n) p s h = go (leb p 1) (passes_own_distortion n (p / 2) (pass t p s) (pass_own_distortion p s h))
    where
      go : (k : Bool) → OwnDistortion t (all_passes n t (p / 2) (pass t p s)) → OwnDistortion t (cond k s (all_passes n t (p / 2) (pass t p s)))
      go true f = h
      go false f = f

  finished_own_distortion : (s : Seen) → OwnDistortion t s → OwnDistortion t (finished t s)
  unfolding finished ended
  finished_own_distortion s h = probe_own_distortion t (pass t 1 s) _ (pass_own_distortion 1 s h)

  -- cross ends at a candidate, and reports that vector's own distortion
  pub cross_own_distortion : (limit w : ℕ) → T (t.candidate origin) → OwnDistortion t (cross t limit w)
  unfolding cross
  cross_own_distortion limit w c = go (ltb (t.cost origin) limit)
    where
      go : (k : Bool) → OwnDistortion t (cond k (at_origin t) (finished t (all_passes w t (w / 2) (at_origin t))))
      go true = at_origin_own_distortion t c
      go false = finished_own_distortion (all_passes w t (w / 2) (at_origin t)) (passes_own_distortion w (w / 2) (at_origin t) (at_origin_own_distortion t c))

-- a block that stands wholly inside the newer frame
module _ (p : Pair) (limit w y x : ℕ) (down : y + p.setting.n ≤ p.setting.height) (across : x + p.setting.n ≤ p.setting.width) where
  pub cross_own_distortion_at : OwnDistortion (target p w y x) (cross (target p w y x) limit w)
  cross_own_distortion_at = cross_own_distortion (target p w y x) limit w (still_candidate p.setting w y x down across)

  -- cross is never lower than the exhaustive best of a window that is no smaller
  pub cross_never_lower : (wide : ℕ) (v : Vector) → w ≤ wide → Best p wide y x v → distortion p y x v ≤ (cross (target p w y x) limit w).least
  cross_never_lower wide v l b = never_lower p w wide y x v (cross (target p w y x) limit w) l b cross_own_distortion_at

-- ---- at most 5 + 4 log2 w are measured

length_widened : (p : ℕ) (os : List Vector) → length (widened p os) ≡ length os
unfolding widened
length_widened p [] = refl
length_widened p (o ∷ os) = ap suc (length_widened p os)

module _ (t : Target) where
  pass_count : (p : ℕ) (s : Seen) → (pass t p s).count ≤ s.count + 4
  unfolding pass diagonal_cross
  pass_count p s =
      omega (
        arith,
        probe_count t s (around s.best (widened p diagonal_cross)),
        length_around s.best (widened p diagonal_cross),
        length_widened p diagonal_cross,
      )

  passes_count : (n p : ℕ) (s : Seen) → (passes_in n t p s).count ≤ s.count + 4 * n
  unfolding passes_in
  passes_count zero p s = omega arith
  passes_count (suc n) p s = omega (arith, passes_count n (p / 2) (pass t p s), pass_count p s)

  ended_count : (k : Bool) (s : Seen) → (ended t k s).count ≤ s.count + 4
  unfolding ended plus_cross diagonal_cross
  ended_count true s = omega (arith, probe_count t s (around s.best plus_cross), length_around s.best plus_cross)
  ended_count false s = omega (arith, probe_count t s (around s.best diagonal_cross), length_around s.best diagonal_cross)

  finished_count : (s : Seen) → (finished t s).count ≤ s.count + 8
  unfolding finished
  finished_count s = omega (arith, ended_count (on_diagonal s.best (pass t 1 s).best) (pass t 1 s), pass_count 1 s)

  pub cross_count : (limit w : ℕ) → cross_window w ≡ true → (cross t limit w).count ≤ 5 + 4 * log2 w
  unfolding cross at_origin
  cross_count limit w e = go (ltb (t.cost origin) limit)
    where
      c : T (cross_window w)
      c = true_T (cross_window w) e

      go : (k : Bool) → (cond k (at_origin t) (finished t (all_passes w t (w / 2) (at_origin t)))).count ≤ 5 + 4 * log2 w
      go true = omega arith
      go false =
          rw (← (passes_many t (at_origin t) w c))
          (omega (arith, finished_count (passes_in (log2 w - 1) t (w / 2) (at_origin t)), passes_count (log2 w - 1) (w / 2) (at_origin t), log2_some w c))
