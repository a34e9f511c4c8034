-- Lists of calls on a state. A reckoning is fed the calls alone; a run has their answers, each call on the state that the answer before it handed back.
--   reckon_call refusal accept s c         one call reckoned: a refused one changes nothing, any other does as accept says
--   accepted_from refusal accept s calls   the accepted calls, in order
--   foldl next s calls                    the state after all calls (the library's)
--   run_from answer handed s calls         what the calls answer, in order
--   last_handed handed s results           the state handed back last
--   EachCall next P s calls results       P of each call: of the reckoned state before it, the call, and what it answered
use Rattle.std.specs.Prelude.{ℕ, ◌≡◌, cond, eqb}
use Rattle.std.proofs.Math.Path.{refl}
use Rattle.std.proofs.Common.{sym, subst}
use mathlib.Core.List.{List, [], ◌∷◌, foldl}
use Rattle.std.proofs.Math.Decide.{ℕ_discrete}
use borrow.Author.Tests.{eq-eqb, ne_eqb}

-- ---- the reckoning

module _ {S C : Type 0} (refusal : S → C → ℕ) (accept : S → C → S) where
  unfoldable pub reckon_call : S → C → S
  reckon_call s c = cond (eqb (refusal s c) 0) (accept s c) s

  unfoldable pub accepted_from : S → List C → List C
  accepted_from s [] = []
  accepted_from s (c ∷ cs) = cond (eqb (refusal s c) 0) (c ∷ accepted_from (accept s c) cs) (accepted_from s cs)

  pub reckon_no : (s : S) (c : C) → (refusal s c ≡ 0 → ⊥) → reckon_call s c ≡ s
  unfolding reckon_call
  reckon_no s c n = rw (ne_eqb (refusal s c) 0 n)

  pub reckon_yes : (s : S) (c : C) → refusal s c ≡ 0 → reckon_call s c ≡ accept s c
  unfolding reckon_call
  reckon_yes s c e = rw (eq-eqb (refusal s c) 0 e)

  -- the same in one line: d tells of the state `at d`, and an accepted call c leads from d to `on d c`
  module _ {D : Type 0} (at : D → S) (on : D → C → D) (leads : (d : D) (c : C) → refusal (at d) c ≡ 0 → accept (at d) c ≡ at (on d c)) where
    abbrev Is : List C → D → Type 0
    Is cs d = foldl reckon_call (at d) cs ≡ at (foldl on d (accepted_from (at d) cs))

    reckoned_more : (c : C) (cs : List C) (d : D) → ((e : D) → Is cs e) → Dec (refusal (at d) c ≡ 0) → Is (c ∷ cs) d
    unfolding accepted_from
    reckoned_more c cs d ih (no n) = rw (reckon_no (at d) c n, ne_eqb (refusal (at d) c) 0 n) (ih d)
    reckoned_more c cs d ih (yes e) = rw (reckon_yes (at d) c e, eq-eqb (refusal (at d) c) 0 e, leads d c e) (ih (on d c))

    pub reckoned_is : (cs : List C) (d : D) → foldl reckon_call (at d) cs ≡ at (foldl on d (accepted_from (at d) cs))
    unfolding accepted_from
    reckoned_is [] d = refl
    reckoned_is (c ∷ cs) d = reckoned_more c cs d (reckoned_is cs) (ℕ_discrete (refusal (at d) c) 0)

-- ---- the run

module _ {S C R : Type 0} (answer : S → C → R) (handed : R → S) where
  unfoldable pub run_from : S → List C → List R
  run_from s [] = []
  run_from s (c ∷ cs) = answer s c ∷ run_from (handed (answer s c)) cs

module _ {S R : Type 0} (handed : R → S) where
  unfoldable pub last_handed : S → List R → S
  last_handed s [] = s
  last_handed s (r ∷ rs) = last_handed (handed r) rs

pub data EachCall {S C R : Type 0} (next : S → C → S) (P : S → C → R → Type 0) : S → List C → List R → Type 0 where
  none : {s : S} → EachCall next P s [] []
  more : {s : S} {c : C} {r : R} {cs : List C} {rs : List R} → P s c r → EachCall next P (next s c) cs rs → EachCall next P s (c ∷ cs) (r ∷ rs)

-- where each call handed back what is reckoned of it, the last did
pub last_each : {S C R : Type 0} (next : S → C → S) (handed : R → S) (cs : List C) (rs : List R) (s : S)
    → EachCall next (λ s c r. handed r ≡ next s c) s cs rs → last_handed handed s rs ≡ foldl next s cs
unfolding last_handed
last_each next handed [] [] s none = refl
last_each next handed [] (r ∷ rs) s e = elim e [ ]
last_each next handed (c ∷ cs) [] s e = elim e [ ]
last_each next handed (c ∷ cs) (r ∷ rs) s (more h e) = rw h (last_each next handed cs rs (next s c) e)

-- a run whose calls hand back what is reckoned of them: what holds of a call on any state holds of each call
module _ {S C R : Type 0} (answer : S → C → R) (handed : R → S) (next : S → C → S) (alike : (s : S) (c : C) → handed (answer s c) ≡ next s c) where
  pub each_call : (P : S → C → R → Type 0) → ((s : S) (c : C) → P s c (answer s c)) → (cs : List C) (s : S)
      → EachCall next P s cs (run_from answer handed s cs)
  unfolding run_from
  each_call P h [] s = none
  each_call P h (c ∷ cs) s =
      more (h s c) (subst (λ (u : S). EachCall next P (next s c) cs (run_from answer handed u cs)) (sym (alike s c)) (each_call P h cs (next s c)))

  pub last_is : (cs : List C) (s : S) → last_handed handed s (run_from answer handed s cs) ≡ foldl next s cs
  last_is cs s = last_each next handed cs _ s (each_call (λ s c r. handed r ≡ next s c) alike cs s)
