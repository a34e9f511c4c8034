-- Where no block votes, or all that vote have one vector of window 16, the vector of most voters is known without the table: (0,0), or that one, since it
-- has every vote and any other none.
--   all_alike        whether there are voters and they all have the first block's vector, as a test
--   majority_once    the vector of most voters, without the table where it can be
use Prim.Native.Nat.{ℕ, zero, suc, ◌≤◌, ◌<◌}
use mathlib.Core.Path.{◌≡◌, refl, sym, subst, ap, ◌∙◌}
use mathlib.Core.Logic.{inl, ⊎_elim}
use mathlib.Core.Bool.{Bool, true, false, cond, not, ◌&&◌, ◌||◌, false≢true}
use native.Mathlib.Nat.{eq-or-lt_of_le, le_of_suc-le-suc, not-suc-le-zero}
use native.Mathlib.Decide.{ℕ_discrete}
use native.Mathlib.Omega.{arith}
use borrow.Author.Tests.{ne_eqb}
use lib.Dec.{leb, leb→le, eqb}
use Rattle.base.specs.Sum.{sum_to_ext}
use Rattle.base.specs.Tests.{one, and_left, and_right, T_true, true_T}
use Rattle.order.specs.declared.Vector.{Vector}
use Rattle.order.specs.Vectors.{Within, in_window, within_yes, same?, same_yes, same_self}
use Rattle.probe.specs.Probe.{origin}
use Rattle.reading.specs.Reading.{voters, votes, majority}
use Rattle.reading.proofs.Majority.{votes_outside, majority_most, majority_blank, most_unique}

module _ (voting : ℕ → Bool) (has : ℕ → Vector) where
  -- each of the first n blocks that votes has v
  abbrev Agree : Vector → ℕ → Type 0
  Agree v n = (k : ℕ) → k < n → voting k ≡ true → has k ≡ v

  votes_all : (v : Vector) (n : ℕ) → Agree v n → votes voting has n v ≡ voters voting n
  unfolding votes voters
  votes_all v n h = sum_to_ext _ _ n (λ k l. go (voting k) (h k l))
    where
      go : {k : ℕ} (b : Bool) → (b ≡ true → has k ≡ v) → one (b && same? (has k) v) ≡ one b
      go true e = rw (e refl, same_self v)
      go false e = refl

  all_same : (v : Vector) (n : ℕ) → 1 ≤ voters voting n → Within 16 v → Agree v n → majority voting has n ≡ v
  all_same v n some within h =
      most_unique voting has n (majority voting has n) v
      (majority_most voting has n (λ k l t. subst (Within 16) (sym (h k l t)) within))
      (record { most = λ u ne. inl (omega (arith, votes_all v n h, votes_outside voting has u n (λ k l t e. ne (sym e ∙ h k l t)))) })

  unfoldable pub every : Vector → ℕ → Bool
  every v zero = true
  every v (suc n) = (not (voting n) || same? (has n) v) && every v n

  every_is : (v : Vector) (n : ℕ) → every v n ≡ true → Agree v n
  unfolding every
  every_is v zero e k h t = absurd (not-suc-le-zero h)
  every_is v (suc n) e k h t =
      let here = not (voting n) || same? (has n) v in
      let all = true_T (here && every v n) e in
      ⊎_elim
      (λ (q : k ≡ n). ap has q ∙ same_yes (has n) v (voted (voting n) (sym (ap voting q) ∙ t) (T_true _ (and_left here (every v n) all))))
      (λ l. every_is v n (T_true _ (and_right here (every v n) all)) k l t)
      (eq-or-lt_of_le (le_of_suc-le-suc h))
    where
      voted : (a : Bool) {b : Bool} → a ≡ true → (not a || b) ≡ true → b ≡ true
      voted true p q = q
      voted false p q = absurd (false≢true p)

  unfoldable pub all_alike : ℕ → Bool
  all_alike n = leb 1 (voters voting n) && (in_window 16 (has 0) && every (has 0) n)

  abbrev pub majority_once : ℕ → Vector
  majority_once n = cond (eqb (voters voting n) 0) origin (cond (all_alike n) (has 0) (majority voting has n))

  once : (n : ℕ) (b : Bool) → all_alike n ≡ b → majority voting has n ≡ cond b (has 0) (majority voting has n)
  unfolding all_alike
  once n true e =
      let some = leb 1 (voters voting n) in
      let inside = in_window 16 (has 0) in
      let t = true_T (some && (inside && every (has 0) n)) e in
      let r = and_right some (inside && every (has 0) n) t in
      all_same (has 0) n (leb→le 1 (voters voting n) (and_left some (inside && every (has 0) n) t))
      (within_yes 16 (has 0) (and_left inside (every (has 0) n) r))
      (every_is (has 0) n (T_true _ (and_right inside (every (has 0) n) r)))
  once n false e = refl

  pub majority-once : (n : ℕ) → majority voting has n ≡ majority_once n
  majority-once n = go (ℕ_discrete (voters voting n) 0)
    where
      go : Dec (voters voting n ≡ 0) → majority voting has n ≡ majority_once n
      go (yes z) = rw z (majority_blank voting has n z)
      go (no h) = rw (ne_eqb (voters voting n) 0 h) (once n (all_alike n) refl)
