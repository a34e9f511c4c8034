-- Lists by a rule, read from the front.
--   list_to_front     g 0, then the others
--   list_from         g k, g (k + 1), .. of n places; list_to_from: list_to is that from 0
--   drop_front       from a place on: n elements, then what lies behind them
--   flat_map_append   the lists of two lists' elements, one behind the other; flat_map_list_to: of a list by a rule
use Prim.Native.Nat.{ℕ, zero, suc, ◌+◌, ◌≤◌}
use Rattle.std.specs.Prelude.{◌≡◌, length, drop}
use Rattle.std.proofs.Math.Path.{refl, ap, ap₂}
use Rattle.std.proofs.Common.{sym, ◌∙◌, arith, drop-cons}
use mathlib.Core.List.{List, [], ◌∷◌, ◌++◌, flat_map, append_assoc, append-nil}
use Rattle.std.proofs.Math.Nat.{add-zero, add-suc}
use Rattle.std.proofs.Math.ListN.{get_or}
use Rattle.std.proofs.Math.Seq.{append_snoc}
use Rattle.base.specs.Lists.{list_to, list_to_ext, concat_to}

module _ {A : Type 0} where
  pub list_to_front : (g : ℕ → A) (n : ℕ) → list_to g (suc n) ≡ g 0 ∷ list_to (λ i. g (suc i)) n
  unfolding list_to
  list_to_front g zero = refl
  list_to_front g (suc n) = ap (λ (l : List A). l ++ (g (suc n) ∷ [])) (list_to_front g n)

  unfoldable pub list_from : (ℕ → A) → ℕ → ℕ → List A
  list_from g k zero = []
  list_from g k (suc n) = g k ∷ list_from g (k + 1) n

  list_from_is : (g : ℕ → A) (k n : ℕ) → list_to (λ i. g (k + i)) n ≡ list_from g k n
  unfolding list_from list_to
  list_from_is g k zero = refl
  list_from_is g k (suc n) =
      list_to_front (λ i. g (k + i)) n
      ∙ ap₂ ◌∷◌ (ap g (add-zero k)) (list_to_ext _ _ n (λ i l. ap g (omega arith)) ∙ list_from_is g (k + 1) n)

  pub list_to_from : (g : ℕ → A) (n : ℕ) → list_to g n ≡ list_from g 0 n
  list_to_from g n = list_to_ext g _ n (λ i l. ap g (omega arith)) ∙ list_from_is g 0 n

  pub drop_front : (l : List A) (at n : ℕ) (z : A) → at + n ≤ length l → drop at l ≡ list_to (λ i. get_or l (at + i) z) n ++ drop (at + n) l
  unfolding list_to
  drop_front l at zero z h = rw add-zero
  drop_front l at (suc n) z h =
      drop_front l at n z (omega arith)
      ∙ ap (◌++◌ (list_to (λ i. get_or l (at + i) z) n)) (drop-cons l (at + n) z (omega arith))
      ∙ rw add-suc (sym (append_snoc (list_to (λ i. get_or l (at + i) z) n) (get_or l (at + n) z) (drop (suc (at + n)) l)))

module _ {A B : Type 0} where
  pub flat_map_append : (f : A → List B) (xs ys : List A) → flat_map f (xs ++ ys) ≡ flat_map f xs ++ flat_map f ys
  unfolding flat_map
  flat_map_append f [] ys = refl
  flat_map_append f (x ∷ xs) ys = rw (flat_map_append f xs ys, append_assoc)

  pub flat_map_list_to : (f : A → List B) (g : ℕ → A) (n : ℕ) → flat_map f (list_to g n) ≡ concat_to (λ k. f (g k)) n
  unfolding flat_map list_to concat_to
  flat_map_list_to f g zero = refl
  flat_map_list_to f g (suc n) = flat_map_append f (list_to g n) (g n ∷ []) ∙ rw (flat_map_list_to f g n, append-nil (f (g n)))
