-- Four-step over any target: each step probes a list of points, so it reports the distortion of its own vector; wherever a pattern moves to, at most five
-- of its nine points are new; and three moves by 2 and one by 1 end in window 7.
use Prim.Native.Nat.{ℕ, ◌+◌, ◌≤◌}
use mathlib.Core.Path.{◌≡◌, ap, ap₂, subst, ◌∙◌}
use mathlib.Core.Bool.{Bool, true, false, cond}
use mathlib.Core.List.{List, [], ◌∷◌}
use native.Mathlib.Omega.{arith}
use lib.Dec.{T, leb, leb→le}
use lib.ListN.{length}
use Rattle.order.specs.declared.Vector.{Vector}
use Rattle.order.specs.Vectors.{Within, same?}
use Rattle.frame.specs.Pictures.{Pair}
use Rattle.frame.specs.Candidates.{still_candidate}
use Rattle.distortion.specs.Blocks.{distortion}
use Rattle.search.specs.Target.{Target, target}
use Rattle.search.specs.Exhaustive.{Best}
use Rattle.base.specs.Lists.{Each}
use Rattle.probe.specs.Probe.{origin, plus, Seen, at_origin, around, is_in, fresh, OwnDistortion, Alike}
use Rattle.probe.proofs.Probe.{probe_own_distortion, at_origin_own_distortion, never_lower, probe_count, probe_best, each_fresh, each_around, all?}
use Rattle.probe.proofs.Probe.{all_each, all-within, fresh_moved, length_around, around_plus}
use Rattle.probe.proofs.Probe.{plus_origin, within_more, each_more, around_within, probe_alike, at_origin_within, at_origin_alike}
use Rattle.four_step.specs.FourStep.{square, ring, moved, step1, step23, step4, from3, from2, four_step}

-- ---- its own distortion

module _ (t : Target) where
  moved_own_distortion : (before : List Vector) (s : Seen) → OwnDistortion t s → OwnDistortion t (moved t before s)
  unfolding moved
  moved_own_distortion before s h = probe_own_distortion t s (fresh before (around s.best square)) h

  step23_own_distortion : (c : Vector) (s : Seen) → OwnDistortion t s → OwnDistortion t (step23 t c s)
  unfolding step23
  step23_own_distortion c s h = moved_own_distortion (around c square) s h

  step4_own_distortion : (s : Seen) → OwnDistortion t s → OwnDistortion t (step4 t s)
  unfolding step4
  step4_own_distortion s h = probe_own_distortion t s (around s.best ring) h

  from3_own_distortion : (c : Vector) (s : Seen) → OwnDistortion t s → OwnDistortion t (from3 t c s)
  unfolding from3
  from3_own_distortion c s h = go (same? s.best c)
    where
      go : (k : Bool) → OwnDistortion t (cond k (step4 t s) (step4 t (step23 t c s)))
      go true = step4_own_distortion s h
      go false = step4_own_distortion (step23 t c s) (step23_own_distortion c s h)

  from2_own_distortion : (c : Vector) (s : Seen) → OwnDistortion t s → OwnDistortion t (from2 t c s)
  unfolding from2
  from2_own_distortion c s h = go (same? s.best c)
    where
      go : (k : Bool) → OwnDistortion t (cond k (step4 t s) (from3 t s.best (step23 t c s)))
      go true = step4_own_distortion s h
      go false = from3_own_distortion s.best (step23 t c s) (step23_own_distortion c s h)

  -- four-step ends at a candidate, and reports that vector's own distortion
  pub four_step_own_distortion : T (t.candidate origin) → OwnDistortion t (four_step t)
  unfolding four_step step1
  four_step_own_distortion c = from2_own_distortion origin (step1 t) (moved_own_distortion (origin ∷ []) (at_origin t) (at_origin_own_distortion t c))

-- a block that stands wholly inside the newer frame
module _ (p : Pair) (y x : ℕ) (down : y + p.setting.n ≤ p.setting.height) (across : x + p.setting.n ≤ p.setting.width) where
  pub four_step_own_distortion_at : OwnDistortion (target p 7 y x) (four_step (target p 7 y x))
  four_step_own_distortion_at = four_step_own_distortion (target p 7 y x) (still_candidate p.setting 7 y x down across)

  -- four-step is never lower than the exhaustive best of a window that is no smaller
  pub four_step_never_lower : (w : ℕ) (v : Vector) → 7 ≤ w → Best p w y x v → distortion p y x v ≤ (four_step (target p 7 y x)).least
  four_step_never_lower w v l b = never_lower p 7 w y x v (four_step (target p 7 y x)) l b four_step_own_distortion_at

-- ---- at most 27 are measured

-- how many points of the pattern around v were not in the pattern around c
abbrev pub new : Vector → Vector → ℕ
new c v = length (fresh (around c square) (around v square))

-- the same, after a move by o
abbrev pub new_by : Vector → ℕ
new_by o = length (fresh square (around o square))

pub new_moved : (c o : Vector) → new c (plus c o) ≡ new_by o
new_moved c o = rw (around_plus c o square, fresh_moved c square (around o square)) (length_around c (fresh square (around o square)))

-- at each of the nine moves there are at most five: computed
few_moves : T (all? (λ o. leb (new_by o) 5) square)
unfolding all? fresh is_in around square
few_moves = tt

few : (c : Vector) → Each (λ v. new c v ≤ 5) (around c square)
few c =
    each_around (λ v. new c v ≤ 5) (λ o. new_by o ≤ 5) c square (λ o h. rw (new_moved c o) h)
    (all_each (λ o. leb (new_by o) 5) (λ o. new_by o ≤ 5) (λ o h. leb→le (new_by o) 5 h) square few_moves)

few_none : T (leb (new_by origin) 5)
unfolding fresh is_in around square
few_none = tt

few_here : (c : Vector) → new c c ≤ 5
few_here c = subst (λ v. new c v ≤ 5) (plus_origin c) (rw (new_moved c origin) (leb→le (new_by origin) 5 few_none))

module _ (t : Target) where
  -- wherever a step moves to, the next has at most five new points
  moved_few : (before : List Vector) (s : Seen) → new s.best (moved t before s).best ≤ 5
  unfolding moved
  moved_few before s =
      probe_best (λ v. new s.best v ≤ 5) t s (fresh before (around s.best square)) (few_here s.best)
      (each_fresh (λ v. new s.best v ≤ 5) before (around s.best square) (few s.best))

  step23_few : (c : Vector) (s : Seen) → new s.best (step23 t c s).best ≤ 5
  unfolding step23
  step23_few c s = moved_few (around c square) s

  step1_few : new origin (step1 t).best ≤ 5
  unfolding step1 at_origin
  step1_few = moved_few (origin ∷ []) (at_origin t)

  step1_count : (step1 t).count ≤ 9
  unfolding step1 moved at_origin fresh is_in around square
  step1_count = probe_count t (at_origin t) (fresh (origin ∷ []) (around origin square))

  step23_count : (c : Vector) (s : Seen) → new c s.best ≤ 5 → (step23 t c s).count ≤ s.count + 5
  unfolding step23 moved
  step23_count c s h = omega (arith, probe_count t s (fresh (around c square) (around s.best square)))

  step4_count : (s : Seen) → (step4 t s).count ≤ s.count + 8
  unfolding step4 ring
  step4_count s = omega (arith, probe_count t s (around s.best ring), length_around s.best ring)

  from3_count : (c : Vector) (s : Seen) → new c s.best ≤ 5 → (from3 t c s).count ≤ s.count + 13
  unfolding from3
  from3_count c s h = go (same? s.best c)
    where
      go : (k : Bool) → (cond k (step4 t s) (step4 t (step23 t c s))).count ≤ s.count + 13
      go true = omega (arith, step4_count s)
      go false = omega (arith, step4_count (step23 t c s), step23_count c s h)

  from2_count : (c : Vector) (s : Seen) → new c s.best ≤ 5 → (from2 t c s).count ≤ s.count + 18
  unfolding from2
  from2_count c s h = go (same? s.best c)
    where
      go : (k : Bool) → (cond k (step4 t s) (from3 t s.best (step23 t c s))).count ≤ s.count + 18
      go true = omega (arith, step4_count s)
      go false = omega (arith, from3_count s.best (step23 t c s) (step23_few c s), step23_count c s h)

  pub four_step_count : (four_step t).count ≤ 27
  unfolding four_step
  four_step_count = omega (arith, from2_count origin (step1 t) step1_few, step1_count)

-- ---- no point outside window 7 is tried

square_reach : Each (Within 2) square
unfolding square all?
square_reach = all-within 2 square tt

ring_reach : Each (Within 1) ring
unfolding ring all?
ring_reach = all-within 1 ring tt

-- the points of a pattern around a best in window r, and of the last step's
module _ (s : Seen) (r : ℕ) (h : Within r s.best) where
  pub moved_points : (before : List Vector) → r + 2 ≤ 7 → Each (Within 7) (fresh before (around s.best square))
  moved_points before l =
      each_more (r + 2) 7 (fresh before (around s.best square)) l
      (each_fresh (Within (r + 2)) before (around s.best square) (around_within r 2 s.best square h square_reach))

  pub ring_points : r + 1 ≤ 7 → Each (Within 7) (around s.best ring)
  ring_points l = each_more (r + 1) 7 (around s.best ring) l (around_within r 1 s.best ring h ring_reach)

  pub moved_within : (t : Target) (before : List Vector) → Within (r + 2) (moved t before s).best
  unfolding moved
  moved_within t before =
      probe_best (Within (r + 2)) t s (fresh before (around s.best square)) (within_more (omega arith) h)
      (each_fresh (Within (r + 2)) before (around s.best square) (around_within r 2 s.best square h square_reach))

pub step23_within : (t : Target) (c : Vector) (s : Seen) (r : ℕ) → Within r s.best → Within (r + 2) (step23 t c s).best
unfolding step23
step23_within t c s r h = moved_within s r h t (around c square)

pub step1_within : (t : Target) → Within 2 (step1 t).best
unfolding step1
step1_within t = moved_within (at_origin t) 0 (at_origin_within t) t (origin ∷ [])

module _ (t u : Target) (a : Alike 7 t u) where
  moved_alike : (before : List Vector) (s : Seen) (r : ℕ) → Within r s.best → r + 2 ≤ 7 → moved t before s ≡ moved u before s
  unfolding moved
  moved_alike before s r h l = probe_alike 7 t u s (fresh before (around s.best square)) a (moved_points s r h before l)

  step23_alike : (c : Vector) (s : Seen) (r : ℕ) → Within r s.best → r + 2 ≤ 7 → step23 t c s ≡ step23 u c s
  unfolding step23
  step23_alike c s r h l = moved_alike (around c square) s r h l

  step4_alike : (s : Seen) → Within 6 s.best → step4 t s ≡ step4 u s
  unfolding step4
  step4_alike s h = probe_alike 7 t u s (around s.best ring) a (ring_points s 6 h (omega arith))

  from3_alike : (c : Vector) (s : Seen) → Within 4 s.best → from3 t c s ≡ from3 u c s
  unfolding from3
  from3_alike c s h =
      ap₂ (cond (same? s.best c)) (step4_alike s (within_more (omega arith) h))
      (step4_alike (step23 t c s) (step23_within t c s 4 h) ∙ ap (step4 u) (step23_alike c s 4 h (omega arith)))

  from2_alike : (c : Vector) (s : Seen) → Within 2 s.best → from2 t c s ≡ from2 u c s
  unfolding from2
  from2_alike c s h =
      ap₂ (cond (same? s.best c)) (step4_alike s (within_more (omega arith) h))
      (from3_alike s.best (step23 t c s) (step23_within t c s 2 h) ∙ ap (from3 u s.best) (step23_alike c s 2 h (omega arith)))

  -- two targets that agree in window 7 have one result
  pub four_step_alike : four_step t ≡ four_step u
  unfolding four_step step1
  four_step_alike =
      from2_alike origin (step1 t) (step1_within t)
      ∙ ap (from2 u origin) (moved_alike (origin ∷ []) (at_origin t) 0 (at_origin_within t) (omega arith) ∙ ap (moved u (origin ∷ [])) (at_origin_alike 7 t u a))
