-- The numbers below n that pass a test, in their order: so the candidates' places in the preference table, in preference order.
--   pick p n           the numbers below n that pass p
--   pick_from p k n     the same by a walk from k on: pick-from
--   BestBelow f p n a  a is below n and passes; no other that does is less by f, and those before it are greater
use Rattle.std.specs.Prelude.{ℕ, zero, suc, ◌+◌, ◌≤◌, ◌<◌, ◌≡◌, refl, ◌⊎◌, Bool, true, false, cond, List, [], ◌∷◌, ◌++◌, length, get_or}
use Rattle.std.proofs.Common.{zero-le, sym, ap, ap₂, ◌∙◌, subst, inl, inr, ⊎_elim, append-nil, add-zero, zero-add, le_refl, le_of_eq, lt-suc_self, not-suc-le-zero, eq-or-lt_of_le, le_of_suc-le-suc, add-one, arith, length-append}
use mathlib.Core.List.Memᴰ
use Rattle.std.proofs.Math.Nat.{le_step}
use Rattle.std.proofs.Math.ListN.{get_or-append}
use Rattle.base.specs.Sum.{sum_to, sum_to_bound}
use Rattle.base.specs.Least.{◌∈◌, least_of, FirstLeast, here, later, first_mem, first_le, least_of_first}

unfoldable pub pick : (ℕ → Bool) → ℕ → List ℕ
pick p zero = []
pick p (suc n) = pick p n ++ cond (p n) (n ∷ []) []

pub record BestBelow (f : ℕ → ℕ) (p : ℕ → Bool) (n a : ℕ) : Type 0 where
  pub below : a < n
  pub passes : p a ≡ true
  pub least : (k : ℕ) → k < n → p k ≡ true → f a ≤ f k
  pub earlier : (k : ℕ) → k < a → p k ≡ true → f a < f k

pub pick_none : (p : ℕ → Bool) → pick p 0 ≡ []
unfolding pick
pick_none p = refl

pub pick_yes : (p : ℕ → Bool) (n : ℕ) → p n ≡ true → pick p (n + 1) ≡ pick p n ++ (n ∷ [])
unfolding pick
pick_yes p n e = rw (add-one, e)

pub pick_no : (p : ℕ → Bool) (n : ℕ) → p n ≡ false → pick p (n + 1) ≡ pick p n
unfolding pick
pick_no p n e = rw (add-one, e) (append-nil _)

-- k is picked where it is below n and passes
pub pick_mem : (p : ℕ → Bool) (n : ℕ) {k : ℕ} → k < n → p k ≡ true → k ∈ pick p n
unfolding pick
pick_mem p zero h e = absurd (not-suc-le-zero h)
pick_mem p (suc n) {k} h e =
    ⊎_elim
    (λ (q : k ≡ n). Memᴰ.append_right (pick p n) (subst (λ (t : Bool). k ∈ cond t (n ∷ []) []) (sym e ∙ ap p q) (Memᴰ.head q)))
    (λ (l : k < n). Memᴰ.append_left _ (pick_mem p n l e))
    (eq-or-lt_of_le (le_of_suc-le-suc h))

-- and only there
pub picked : (p : ℕ → Bool) (n : ℕ) {k : ℕ} → k ∈ pick p n → (k < n) × (p k ≡ true)
unfolding pick
picked p zero m = absurd (Memᴰ.not-nil m)
picked p (suc n) {k} m =
    ⊎_elim (λ i. let (l, e) = picked p n i in (le_step l, e)) (λ i. last (p n) refl i) (Memᴰ.append_cases (pick p n) m)
  where
    last : (t : Bool) → p n ≡ t → k ∈ cond t (n ∷ []) [] → (k < suc n) × (p k ≡ true)
    last true e i = let q = Memᴰ.eq_of_singleton i in (le_of_eq (ap suc q), ap p q ∙ e)
    last false e i = absurd (Memᴰ.not-nil i)

pub pick_ext : (p q : ℕ → Bool) (n : ℕ) → ((i : ℕ) → i < n → p i ≡ q i) → pick p n ≡ pick q n
unfolding pick
pick_ext p q zero h = refl
pick_ext p q (suc n) h = ap₂ (λ (xs : List ℕ) (t : Bool). xs ++ cond t (n ∷ []) []) (pick_ext p q n (λ i l. h i (le_step l))) (h n (lt-suc_self n))

-- how many pass
pub pick_length : (p : ℕ → Bool) (n : ℕ) → length (pick p n) ≡ sum_to (λ i. cond (p i) 1 0) n
unfolding pick sum_to
pick_length p zero = refl
pick_length p (suc n) = length-append (pick p n) _ ∙ ap₂ ◌+◌ (pick_length p n) (one (p n))
  where
    one : (t : Bool) → length (cond {A = List ℕ} t (n ∷ []) []) ≡ cond t 1 0
    one true = refl
    one false = refl

pub pick_few : (p : ℕ → Bool) (n : ℕ) → length (pick p n) ≤ n
pick_few p n = omega (arith, pick_length p n, sum_to_bound 1 (λ i. cond (p i) 1 0) n (λ i h. one (p i)))
  where
    one : (t : Bool) → cond t 1 0 ≤ 1
    one true = le_refl 1
    one false = zero-le

-- the first passes: it is the head of the list
pub pick_head : (p : ℕ → Bool) (n : ℕ) → p 0 ≡ true → (0 < length (pick p (suc n))) × (get_or (pick p (suc n)) 0 0 ≡ 0)
unfolding pick
pick_head p zero e = rw e (le_refl 1, refl)
pick_head p (suc n) e = let (h, q) = pick_head p n e in
    (omega (arith, length-append (pick p (suc n)) (cond (p (suc n)) (suc n ∷ []) [])), get_or-append (pick p (suc n)) _ 0 0 h ∙ q)

first_snoc : {f : ℕ → ℕ} {a n : ℕ} (ks : List ℕ) → FirstLeast f a (ks ++ (n ∷ []))
    → FirstLeast f a ks ⊎ ((a ≡ n) × ((k : ℕ) → k ∈ ks → f a < f k))
first_snoc [] (here e h) = inr (e, λ k m. absurd (Memᴰ.not-nil m))
first_snoc [] (later l r) = absurd (Memᴰ.not-nil (first_mem r))
first_snoc (x ∷ ks) (here e h) = inl (here e (λ k m. h k (Memᴰ.append_left _ m)))
first_snoc {f} {a} (x ∷ ks) (later l r) =
    ⊎_elim (λ s. inl (later l s))
    (λ t. inr (t.0, λ k m. ⊎_elim (λ q. subst (λ (y : ℕ). f a < f y) (sym q) l) (t.1 k) (Memᴰ.cases_cons m)))
    (first_snoc ks r)

earlier_picked : (f : ℕ → ℕ) (p : ℕ → Bool) (n a : ℕ) → FirstLeast f a (pick p n) → (k : ℕ) → k < a → p k ≡ true → f a < f k
unfolding pick
earlier_picked f p zero a r k h e = absurd (Memᴰ.not-nil (first_mem r))
earlier_picked f p (suc n) a r k h e = step (λ i. earlier_picked f p n a i k h e) (p n) r
  where
    step : (FirstLeast f a (pick p n) → f a < f k) → (t : Bool) → FirstLeast f a (pick p n ++ cond t (n ∷ []) []) → f a < f k
    step ih true s = ⊎_elim ih (λ u. u.1 k (pick_mem p n (subst (λ (y : ℕ). k < y) u.0 h) e)) (first_snoc (pick p n) s)
    step ih false s = ih (subst (FirstLeast f a) (append-nil (pick p n)) s)

-- where any passes, the first least of those picked is the best below n
pub least_of_pick : (f : ℕ → ℕ) (p : ℕ → Bool) (n : ℕ) → 0 < length (pick p n) → BestBelow f p n (least_of f (pick p n))
least_of_pick f p n h =
    let r = least_of_first f (pick p n) h in
    let (l, e) = picked p n (first_mem r) in
    record { below = l; passes = e; least = λ k hk ek. first_le r (pick_mem p n hk ek); earlier = earlier_picked f p n _ r }

-- k before a list, where a test says so
abbrev pub cons_if : Bool → ℕ → List ℕ → List ℕ
cons_if t k ks = cond t (k ∷ ks) ks

cons_if_append : (t : Bool) (k : ℕ) (ks ls : List ℕ) → cons_if t k ks ++ ls ≡ cons_if t k (ks ++ ls)
cons_if_append true k ks ls = refl
cons_if_append false k ks ls = refl

-- those of the n numbers from k on that pass a test, the first of them first
unfoldable pub pick_from : (ℕ → Bool) → ℕ → ℕ → List ℕ
pick_from p k zero = []
pick_from p k (suc n) = cons_if (p k) k (pick_from p (suc k) n)

pick_from_more : (p : ℕ → Bool) (k n : ℕ) → pick_from p k (suc n) ≡ pick_from p k n ++ cons_if (p (k + n)) (k + n) []
unfolding pick_from
pick_from_more p k zero = rw add-zero
pick_from_more p k (suc n) =
    let e : suc k + n ≡ k + suc n = omega arith in
    ap (cons_if (p k) k) (pick_from_more p (suc k) n ∙ ap (λ (j : ℕ). pick_from p (suc k) n ++ cons_if (p j) j []) e)
    ∙ sym (cons_if_append (p k) k (pick_from p (suc k) n) _)

pub pick-from : (p : ℕ → Bool) (n : ℕ) → pick p n ≡ pick_from p 0 n
unfolding pick pick_from
pick-from p zero = refl
pick-from p (suc n) = ap (λ (ks : List ℕ). ks ++ cons_if (p n) n []) (pick-from p n) ∙ sym (rw zero-add at (pick_from_more p 0 n))
