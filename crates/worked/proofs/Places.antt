-- A block's candidates are listed by one walk along the preference order: `pick` goes over the same places, each looked up from the table's beginning.
--   walk_places   the places of the vectors of a list that pass a test
--   after        f of a list, worked out only after the whole list is
--   by_walk      whatever is made of a block's candidates is made of those that the walk lists
use Prim.Native.Nat.{ℕ, suc, ◌+◌}
use mathlib.Core.Path.{◌≡◌, refl, sym, ap, ap₂, ◌∙◌}
use mathlib.Core.Bool.{Bool}
use mathlib.Core.List.{List, [], ◌∷◌}
use native.Mathlib.Nat.{zero-add, add-zero}
use native.Mathlib.Omega.{arith}
use lib.IntN.{pos}
use lib.ListN.{length, get_or}
use Rattle.base.specs.Picks.{cons_if, pick_from, pick-from}
use Rattle.order.specs.declared.Vector.{Vector}
use Rattle.order.specs.Vectors.{vec, vector_count}
use Rattle.order.specs.Preference.{preference, preferred}
use Rattle.order.proofs.Order.{length_preference}
use Rattle.frame.specs.declared.Setting.{Setting}
use Rattle.frame.specs.Candidates.{candidate}
use Rattle.search.specs.Exhaustive.{places}

-- the places of the vectors that pass a test, the first vector's being k
unfoldable pub walk_places : (Vector → Bool) → ℕ → List Vector → List ℕ
walk_places test k [] = []
walk_places test k (v ∷ vs) = cons_if (test v) k (walk_places test (suc k) vs)

walk_is : (test : Vector → Bool) (p : ℕ → Bool) (z : Vector) (k : ℕ) (vs : List Vector) → ((i : ℕ) → p (k + i) ≡ test (get_or vs i z))
    → pick_from p k (length vs) ≡ walk_places test k vs
unfolding pick_from walk_places
walk_is test p z k [] h = refl
walk_is test p z k (v ∷ vs) h =
    ap₂ (λ (t : Bool) (ks : List ℕ). cons_if t k ks) (rw add-zero at (h 0))
    (walk_is test p z (suc k) vs (λ i. let e : suc k + i ≡ k + suc i = omega arith in ap p e ∙ h (suc i)))

places_walk : (s : Setting) (w y x : ℕ) → places s w y x ≡ walk_places (candidate s w y x) 0 preference
places_walk s w y x =
    let p : ℕ → Bool = λ k. candidate s w y x (preferred k) in
    pick-from p vector_count
    ∙ ap (pick_from p 0) (sym length_preference)
    ∙ walk_is (candidate s w y x) p (vec (pos 0) (pos 0)) 0 preference (λ i. ap p (zero-add i))

-- f of a list, worked out only after the whole list is
unfoldable pub after : {A : Type 0} → List ℕ → (List ℕ → A) → A
after [] f = f []
after (k ∷ ks) f = after ks (λ rest. f (k ∷ rest))

after_is : {A : Type 0} (ks : List ℕ) (f : List ℕ → A) → f ks ≡ after ks f
unfolding after
after_is [] f = refl
after_is (k ∷ ks) f = after_is ks (λ rest. f (k ∷ rest))

-- whatever is made of a block's candidates is made of those that the walk lists
pub by_walk : {A : Type 0} (s : Setting) (w y x : ℕ) (f : List ℕ → A) → f (places s w y x) ≡ after (walk_places (candidate s w y x) 0 preference) f
by_walk s w y x f = ap f (places_walk s w y x) ∙ after_is _ f
