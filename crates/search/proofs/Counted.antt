-- The places of a block's candidates: each candidate of a window up to 16 stands there once, and nothing else; and they are as many as there are
-- candidates among the vectors of window 16, counted row by row without the table. For the table has each vector of window 16 once.
use Prim.Native.Nat.{ℕ, zero, suc, ◌+◌, ◌≤◌, ◌<◌}
use mathlib.Core.Path.{◌≡◌, refl, sym, ap, ap₂, ◌∙◌}
use mathlib.Core.Bool.{Bool, true, false, cond}
use mathlib.Core.List.{List, [], ◌∷◌, ◌++◌}
use native.Mathlib.Omega.{arith}
use lib.IntN.{ℤ, nat_abs}
use lib.ListN.{length}
use Rattle.base.specs.Tests.{T_true, true_T}
use Rattle.base.specs.Sum.{sum_to, sum_to_ext, sum_to_zero, sum_to_one, sum_to_swap, sum_over}
use Rattle.base.specs.Picks.{pick, pick_length}
use Rattle.signed.specs.Int.{parts, same}
use Rattle.signed.specs.Values.{bias, unbias, bias_is, unbias_is, bias_unbias}
use Rattle.order.specs.declared.Vector.{Vector}
use Rattle.order.specs.Vectors.{vec, Within, same?, same_yes, same_self, vector_count}
use Rattle.order.specs.Preference.{preferred}
use Rattle.order.proofs.Order.{stands, inside, once}
use Rattle.frame.specs.declared.Setting.{Setting}
use Rattle.frame.specs.Candidates.{Candidate, candidate, candidate_yes, candidate_true, candidate_older}
use Rattle.search.specs.Exhaustive.{places, how_often, grid_vector, candidates}

same_no : (u v : Vector) → (u ≡ v → ⊥) → same? u v ≡ false
same_no u v h = go (same? u v) refl
  where
    go : (t : Bool) → same? u v ≡ t → t ≡ false
    go true e = absurd (h (same_yes u v e))
    go false e = refl

-- what is counted of u where it is v: nothing elsewhere
abbrev where? : Vector → Vector → ℕ → ℕ
where? u v c = cond (same? u v) c 0

nothing : (t : Bool) → cond {A = ℕ} t 0 0 ≡ 0
nothing true = refl
nothing false = refl

where_no : (u v : Vector) (c : ℕ) → (u ≡ v → ⊥) → where? u v c ≡ 0
where_no u v c h = rw (same_no u v h)

where_self : (u v : Vector) (c : ℕ) → u ≡ v → where? u v c ≡ c
where_self u v c e = rw (e, same_self v)

-- ---- the table has each vector of window 16 once

in_table : (v : Vector) (c : ℕ) → Within 16 v → sum_to (λ k. where? (preferred k) v c) vector_count ≡ c
in_table v c h =
    let s = stands v h in
    sum_to_one (λ k. where? (preferred k) v c) vector_count s.0 s.1
    (λ k l other. where_no (preferred k) v c (λ e. other (once k s.0 l s.1 (e ∙ sym s.2))))
    ∙ where_self (preferred s.0) v c s.2

-- ---- and so have the 33 rows and columns

grid_within : (i j : ℕ) → i < 33 → j < 33 → Within 16 (grid_vector i j)
grid_within i j hi hj = record {
  down = omega (arith, unbias_is 16 i, parts (unbias 16 i));
  across = omega (arith, unbias_is 16 j, parts (unbias 16 j));
}

in_grid : (v : Vector) (F : Vector → ℕ) → Within 16 v → sum_over 33 33 (λ i j. where? v (grid_vector i j) (F (grid_vector i j))) ≡ F v
in_grid v F h =
    sum_to_one _ 33 i (omega (arith, bias_is 16 v.dy h.down, parts v.dy))
    (λ k l other. sum_to_zero _ 33 (λ m hm. where_no v (grid_vector k m) _ (λ e. other (sym (ap (λ u. bias 16 u.dy) e ∙ bias_unbias 16 k)))))
    ∙ sum_to_one _ 33 j (omega (arith, bias_is 16 v.dx h.across, parts v.dx))
    (λ m hm other. where_no v (grid_vector i m) _ (λ e. other (sym (ap (λ u. bias 16 u.dx) e ∙ bias_unbias 16 m))))
    ∙ where_self v (grid_vector i j) _ (sym here)
    ∙ ap F here
  where
    i : ℕ
    i = bias 16 v.dy

    j : ℕ
    j = bias 16 v.dx

    back : (d : ℤ) → nat_abs d ≤ 16 → unbias 16 (bias 16 d) ≡ d
    back d l = same (unbias 16 (bias 16 d)) d (omega (arith, bias_is 16 d l, unbias_is 16 (bias 16 d)))

    here : grid_vector i j ≡ v
    here = ap₂ vec (back v.dy h.down) (back v.dx h.across)

-- so a sum over the table is one over the rows and columns
pub table_grid : (F : Vector → ℕ) → sum_to (λ k. F (preferred k)) vector_count ≡ sum_over 33 33 (λ i j. F (grid_vector i j))
table_grid F =
    sum_to_ext _ _ vector_count (λ k l. sym (in_grid (preferred k) F (inside k l)))
    ∙ sum_to_swap (λ k i. sum_to (λ j. at k i j) 33) vector_count 33
    ∙ sum_to_ext _ _ 33 (λ i hi.
    sum_to_swap (λ k j. at k i j) vector_count 33
    ∙ sum_to_ext _ _ 33 (λ j hj. in_table (grid_vector i j) (F (grid_vector i j)) (grid_within i j hi hj)))
  where
    at : ℕ → ℕ → ℕ → ℕ
    at k i j = where? (preferred k) (grid_vector i j) (F (grid_vector i j))

-- ---- how often a vector stands at the places picked

module _ (v : Vector) where
  often_append : (a b : List ℕ) → how_often v (a ++ b) ≡ how_often v a + how_often v b
  unfolding how_often
  often_append [] b = omega arith
  often_append (k ∷ a) b = let e = often_append a b in omega arith

  often_pick : (p : ℕ → Bool) (n : ℕ) → how_often v (pick p n) ≡ sum_to (λ k. cond (p k) (where? (preferred k) v 1) 0) n
  unfolding pick sum_to how_often
  often_pick p zero = refl
  often_pick p (suc n) = often_append (pick p n) _ ∙ ap₂ ◌+◌ (often_pick p n) (one (p n))
    where
      one : (t : Bool) → how_often v (cond t (n ∷ []) []) ≡ cond t (where? (preferred n) v 1) 0
      one true = omega arith
      one false = refl

module _ (s : Setting) (w y x : ℕ) where
  -- as many as there are candidates
  pub places_counted : length (places s w y x) ≡ candidates s w y x
  unfolding candidates
  places_counted = pick_length _ vector_count ∙ table_grid (λ v. cond (candidate s w y x v) 1 0)

  module _ (small : w ≤ 16) (v : Vector) where
    -- each candidate once, and nothing else
    pub places_once : how_often v (places s w y x) ≡ cond (candidate s w y x v) 1 0
    places_once = often_pick v _ vector_count ∙ sum_to_ext _ _ vector_count (λ k l. turn (preferred k)) ∙ all (candidate s w y x v) refl
      where
        turn : (u : Vector) → cond (candidate s w y x u) (where? u v 1) 0 ≡ where? u v (cond (candidate s w y x v) 1 0)
        turn u = go (same? u v) refl
          where
            go : (t : Bool) → same? u v ≡ t → cond {A = ℕ} (candidate s w y x u) (cond t 1 0) 0 ≡ cond t (cond (candidate s w y x v) 1 0) 0
            go true e = ap (λ u. cond (candidate s w y x u) 1 0) (same_yes u v e)
            go false e = nothing (candidate s w y x u)

        all : (t : Bool) → candidate s w y x v ≡ t → sum_to (λ k. where? (preferred k) v (cond t 1 0)) vector_count ≡ cond t 1 0
        all true e =
            let near = (candidate_older s w y x v (true_T _ e)).window in
            in_table v 1 (record { down = omega arith; across = omega arith })
        all false e = sum_to_zero _ vector_count (λ k l. nothing (same? (preferred k) v))

    pub places_candidate : Candidate s w y x v → how_often v (places s w y x) ≡ 1
    places_candidate c = places_once ∙ ap (λ t. cond t 1 0) (T_true (candidate s w y x v) (candidate_true s w y x v c))

    pub places_other : (Candidate s w y x v → ⊥) → how_often v (places s w y x) ≡ 0
    places_other n = places_once ∙ go (candidate s w y x v) refl
      where
        go : (t : Bool) → candidate s w y x v ≡ t → cond {A = ℕ} t 1 0 ≡ 0
        go true e = absurd (n (candidate_yes s w y x v (true_T _ e)))
        go false e = refl
