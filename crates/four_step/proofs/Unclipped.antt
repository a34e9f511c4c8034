-- 01: "Unclipped, four-step counts are 17, 20, 22, 23, 25 or 27." Where every vector of window 7 is a candidate, each point is counted, and a
-- pattern that moved has three new points (to an edge) or five (to a corner).
use Prim.Native.Nat.{ℕ, ◌+◌}
use mathlib.Core.Path.{◌≡◌, refl, sym, ap, ◌∙◌}
use mathlib.Core.Logic.{◌⊎◌, inl, inr, ⊎_elim}
use mathlib.Core.Bool.{Bool, true, false, cond, ◌||◌}
use mathlib.Core.List.{List, [], ◌∷◌}
use native.Mathlib.Omega.{arith}
use lib.Dec.{T, eqb, eqb→eq}
use lib.ListN.{length}
use Rattle.base.specs.Tests.{or_cases}
use Rattle.order.specs.declared.Vector.{Vector}
use Rattle.order.specs.Vectors.{Within, same?, same_self}
use Rattle.search.specs.Target.{Target}
use Rattle.base.specs.Lists.{Each}
use Rattle.probe.specs.Probe.{origin, plus, Seen, probe, at_origin, around, is_in, fresh}
use Rattle.probe.proofs.Probe.{probe_best, probe_all, each_map, each_fresh, each_around, all?}
use Rattle.probe.proofs.Probe.{all_each, same_moved, length_around, plus_origin, within_more, at_origin_within}
use Rattle.four_step.specs.FourStep.{square, ring, moved, step1, step23, step4, from3, from2, four_step}
use Rattle.four_step.proofs.FourStep.{new, new_by, new_moved, moved_points, ring_points, step23_within, step1_within}

pub data Unclipped (n : ℕ) : Type 0 where
  stays : n ≡ 17 → Unclipped n
  edge : n ≡ 20 → Unclipped n
  corner : n ≡ 22 → Unclipped n
  edge_edge : n ≡ 23 → Unclipped n
  mixed : n ≡ 25 → Unclipped n
  corner_corner : n ≡ 27 → Unclipped n

-- ---- a pattern that moved has three or five new points

-- the move stays, or is to an edge, or to a corner
abbrev move_ok : Vector → Bool
move_ok o = same? o origin || (eqb (new_by o) 3 || eqb (new_by o) 5)

moves : T (all? move_ok square)
unfolding all? fresh is_in around square
moves = tt

-- the pattern around v, where v is not the centre c before it
abbrev Moved : Vector → Vector → Type 0
Moved c v = same? v c ≡ false → (new c v ≡ 3) ⊎ (new c v ≡ 5)

moved-by : (c o : Vector) → T (move_ok o) → Moved c (plus c o)
moved-by c o h e =
    rw (new_moved c o)
    (⊎_elim (λ k. absurd (rw (sym (same_moved c o origin) ∙ ap (same? (plus c o)) (plus_origin c) ∙ e) at k))
    (λ k. ⊎_elim (λ n. inl (eqb→eq (new_by o) 3 n)) (λ n. inr (eqb→eq (new_by o) 5 n)) (or_cases (eqb (new_by o) 3) (eqb (new_by o) 5) k))
    (or_cases (same? o origin) (eqb (new_by o) 3 || eqb (new_by o) 5) h))

moved_here : (c : Vector) → Moved c c
moved_here c e =
    let z : ◌≡◌ {A = Bool} true false = sym (same_self c) ∙ e in
    let q : ◌≡◌ {A = ℕ} 0 1 = cc in
    absurd (omega arith)

moved_move : (t : Target) (before : List Vector) (s : Seen) → Moved s.best (moved t before s).best
unfolding moved
moved_move t before s =
    probe_best (Moved s.best) t s (fresh before (around s.best square)) (moved_here s.best)
    (each_fresh (Moved s.best) before (around s.best square)
    (each_around (Moved s.best) (λ o. T (move_ok o)) s.best square (moved-by s.best) (all_each move_ok (λ o. T (move_ok o)) (λ o h. h) square moves)))

-- ---- the counts

module _ (t : Target) (all : (v : Vector) → Within 7 v → T (t.candidate v)) where
  -- every point of window 7 that is tried is measured
  points_all : (s : Seen) (vs : List Vector) → Each (Within 7) vs → (probe t s vs).count ≡ s.count + length vs
  points_all s vs e = probe_all t s vs (each_map (Within 7) (λ v. T (t.candidate v)) vs all e)

  step4_is : (s : Seen) → Within 6 s.best → (step4 t s).count ≡ s.count + 8
  unfolding step4 ring
  step4_is s h = omega (arith, points_all s (around s.best ring) (ring_points s 6 h (omega arith)), length_around s.best ring)

  step23_is : (c : Vector) (s : Seen) → Within 4 s.best → (step23 t c s).count ≡ s.count + new c s.best
  unfolding step23 moved
  step23_is c s h = points_all s (fresh (around c square) (around s.best square)) (moved_points s 4 h (around c square) (omega arith))

  step23_moved : (c : Vector) (s : Seen) → Moved s.best (step23 t c s).best
  unfolding step23
  step23_moved c s = moved_move t (around c square) s

  step1_is : (step1 t).count ≡ 9
  unfolding step1 moved at_origin fresh is_in around square
  step1_is = points_all (at_origin t) (fresh (origin ∷ []) (around origin square)) (moved_points (at_origin t) 0 (at_origin_within t) (origin ∷ []) (omega arith))

  step1_moved : Moved origin (step1 t).best
  unfolding step1 at_origin
  step1_moved = moved_move t (origin ∷ []) (at_origin t)

  from3_is : (c : Vector) (s : Seen) → Within 4 s.best → Moved c s.best
      → ((from3 t c s).count ≡ s.count + 8) ⊎ (((from3 t c s).count ≡ s.count + 11) ⊎ ((from3 t c s).count ≡ s.count + 13))
  unfolding from3
  from3_is c s h m = go (same? s.best c) refl
    where
      go : (k : Bool) → same? s.best c ≡ k
          → ((cond k (step4 t s) (step4 t (step23 t c s))).count ≡ s.count + 8)
          ⊎ (((cond k (step4 t s) (step4 t (step23 t c s))).count ≡ s.count + 11)
          ⊎ ((cond k (step4 t s) (step4 t (step23 t c s))).count ≡ s.count + 13))
      go true e = inl (step4_is s (within_more (omega arith) h))
      go false e =
          let k = step4_is (step23 t c s) (step23_within t c s 4 h) in
          let l = step23_is c s h in
          inr (⊎_elim (λ n. inl (omega arith)) (λ n. inr (omega arith)) (m e))

  from2_is : (c : Vector) (s : Seen) → s.count ≡ 9 → Within 2 s.best → Moved c s.best → Unclipped (from2 t c s).count
  unfolding from2
  from2_is c s n h m = go (same? s.best c) refl
    where
      go : (k : Bool) → same? s.best c ≡ k → Unclipped (cond k (step4 t s) (from3 t s.best (step23 t c s))).count
      go true e = let k = step4_is s (within_more (omega arith) h) in stays (omega arith)
      go false e =
          let l = step23_is c s (within_more (omega arith) h) in
          let f = from3_is s.best (step23 t c s) (step23_within t c s 2 h) (step23_moved c s) in
          ⊎_elim
          (λ q. ⊎_elim (λ r. edge (omega arith)) (⊎_elim (λ r. edge_edge (omega arith)) (λ r. mixed (omega arith))) f)
          (λ q. ⊎_elim (λ r. corner (omega arith)) (⊎_elim (λ r. mixed (omega arith)) (λ r. corner_corner (omega arith))) f)
          (m e)

  pub four_step_unclipped : Unclipped (four_step t).count
  unfolding four_step
  four_step_unclipped = from2_is origin (step1 t) step1_is (step1_within t) step1_moved
