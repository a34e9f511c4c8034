-- The exhaustive best exists and is one: every candidate of a window up to 16 stands in the preference table, which is in the order's order.
use Prim.Native.Nat.{ℕ, ◌+◌, ◌≤◌, ◌<◌}
use mathlib.Core.Path.{◌≡◌, sym, ap, ◌∙◌, subst}
use mathlib.Core.Bool.{Bool, true}
use native.Mathlib.Nat.{le_trans, le_antisymm, lt_of_not-le}
use native.Mathlib.Omega.{arith, ne_cases}
use native.Mathlib.Decide.{dec_le}
use lib.Dec.{T}
use lib.IntN.{pos}
use Rattle.base.specs.Tests.{T_true, true_T}
use Rattle.base.specs.Picks.{BestBelow, pick_head, least_of_pick}
use Rattle.order.specs.declared.Vector.{Vector}
use Rattle.order.specs.Vectors.{vec, Precedes, vector_count}
use Rattle.order.specs.Preference.{preferred}
use Rattle.order.proofs.Order.{first_still, in_order, stands, precedes_trans, precedes_irrefl}
use Rattle.frame.specs.Pictures.{Pair}
use Rattle.frame.specs.Candidates.{Candidate, candidate, candidate_yes, candidate_true, still_candidate}
use Rattle.distortion.specs.Blocks.{distortion}
use Rattle.search.specs.Exhaustive.{Best, best}

module _ (p : Pair) (w y x : ℕ) (small : w ≤ 16) where
  abbrev passes : ℕ → Bool
  passes k = candidate p.setting w y x (preferred k)

  abbrev costs : ℕ → ℕ
  costs k = distortion p y x (preferred k)

  -- where each candidate stands in the table
  place_of : (u : Vector) → Candidate p.setting w y x u → (k : ℕ) × (k < vector_count) × (preferred k ≡ u)
  place_of u c =
      stands u (record { down = le_trans c.window.down small; across = le_trans c.window.across small })

  -- the best of the table's candidates is the best of all
  pub best_below : (k : ℕ) → BestBelow costs passes vector_count k → Best p w y x (preferred k)
  best_below k b = record {
    candidate = candidate_yes p.setting w y x (preferred k) (true_T (passes k) b.passes);
    least = λ u c. let s = place_of u c in subst (λ (v : Vector). costs k ≤ distortion p y x v) s.2 (b.least s.0 s.1 (is_passing u c));
    first = λ u c e other. let s = place_of u c in
        subst (λ (v : Vector). Precedes (preferred k) v) s.2
        (ne_cases s.0 k _ (λ q. other (sym s.2 ∙ ap preferred q))
        (λ l. absurd (omega (arith, b.earlier s.0 l (is_passing u c), ap (distortion p y x) s.2)))
        (λ l. in_order k s.0 l s.1));
  }
    where
      is_passing : (u : Vector) (c : Candidate p.setting w y x u) → passes (place_of u c).0 ≡ true
      is_passing u c =
          T_true (passes (place_of u c).0) (subst (λ (v : Vector). T (candidate p.setting w y x v)) (sym (place_of u c).2)
          (candidate_true p.setting w y x u c))

  -- (0,0) stands at place 0
  pub still_passes : y + p.setting.n ≤ p.setting.height → x + p.setting.n ≤ p.setting.width → passes 0 ≡ true
  still_passes hy hx = rw first_still (T_true (candidate p.setting w y x (vec (pos 0) (pos 0))) (still_candidate p.setting w y x hy hx))

  pub best_is : y + p.setting.n ≤ p.setting.height → x + p.setting.n ≤ p.setting.width → Best p w y x (best p w y x)
  unfolding best
  best_is hy hx =
      best_below _ (least_of_pick costs passes vector_count (pick_head passes 1088 (still_passes hy hx)).0)

  -- of two exhaustive bests none precedes the other
  pub best_unique : (u v : Vector) → Best p w y x u → Best p w y x v → u ≡ v
  best_unique u v a b =
      let i = place_of u a.candidate in
      let j = place_of v b.candidate in
      sym i.2 ∙ ap preferred (le_antisymm (not_after u v a b) (not_after v u b a)) ∙ j.2
    where
      not_after : (u v : Vector) (a : Best p w y x u) (b : Best p w y x v) → (place_of u a.candidate).0 ≤ (place_of v b.candidate).0
      not_after u v a b = go (dec_le i.0 j.0)
        where
          i : (k : ℕ) × (k < vector_count) × (preferred k ≡ u)
          i = place_of u a.candidate

          j : (k : ℕ) × (k < vector_count) × (preferred k ≡ v)
          j = place_of v b.candidate

          same_cost : distortion p y x v ≡ distortion p y x u
          same_cost = le_antisymm (b.least u a.candidate) (a.least v b.candidate)

          go : Dec (i.0 ≤ j.0) → i.0 ≤ j.0
          go (yes h) = h
          go (no h) =
              let before = subst (λ (k : Vector). Precedes k (preferred i.0)) j.2 (in_order j.0 i.0 (lt_of_not-le h) i.1) in
              let other : (v ≡ u → ⊥) = λ q. precedes_irrefl (subst (Precedes v) (i.2 ∙ sym q) before) in
              absurd (precedes_irrefl (precedes_trans (subst (Precedes v) i.2 before) (a.first v b.candidate same_cost other)))
