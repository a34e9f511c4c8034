-- Lists of candidates, each a number, and the first of a list that is least by a function f of them.
--   k ∈ ks             k stands in the list
--   better f b k       k where it is strictly less than b, else b
--   least_from f b ks   the first of b ∷ ks that is least
--   least_of f ks       the first of ks that is least; 0 where there is none
--   FirstLeast f a ks  a is the first of ks that is least: those before it are greater, those after it not less
use Rattle.std.specs.Prelude.{ℕ, zero, suc, ◌+◌, ◌≤◌, ◌<◌, ◌≡◌, refl, Bool, true, false, cond, ltb, length, get_or, take}
use Rattle.std.proofs.Common.{sym, ap, ◌∙◌, subst, ⊎_elim, le_of_lt, le_of_eq, lt_of_le_of_lt, lt_of_lt_of_le, not-suc-le-zero, zero-lt-suc, le_of_suc-le-suc, add-one, arith, ltb-true, ltb-false, lt-ltb, le-ltb, length-take, take-suc}
use mathlib.Core.List.Memᴰ
use mathlib.Core.List.{List, [], ◌∷◌, ◌++◌, Memᴰ}

infix 50 ◌∈◌
abbrev pub ◌∈◌ : ℕ → List ℕ → Type 0
k ∈ ks = Memᴰ k ks

abbrev pub better : (ℕ → ℕ) → ℕ → ℕ → ℕ
better f b k = cond (ltb (f k) (f b)) k b

unfoldable pub least_from : (ℕ → ℕ) → ℕ → List ℕ → ℕ
least_from f b [] = b
least_from f b (k ∷ ks) = least_from f (better f b k) ks

unfoldable pub least_of : (ℕ → ℕ) → List ℕ → ℕ
least_of f [] = 0
least_of f (k ∷ ks) = least_from f k ks

pub data FirstLeast (f : ℕ → ℕ) (a : ℕ) : List ℕ → Type 0 where
  here : {x : ℕ} {ks : List ℕ} → a ≡ x → ((k : ℕ) → k ∈ ks → f a ≤ f k) → FirstLeast f a (x ∷ ks)
  later : {x : ℕ} {ks : List ℕ} → f a < f x → FirstLeast f a ks → FirstLeast f a (x ∷ ks)

-- ---- members

pub mem_length : {k : ℕ} {ks : List ℕ} → k ∈ ks → 0 < length ks
mem_length (Memᴰ.head e) = zero-lt-suc _
mem_length (Memᴰ.tail m) = zero-lt-suc _

pub get_d_mem : (ks : List ℕ) (j : ℕ) → j < length ks → get_or ks j 0 ∈ ks
get_d_mem [] j h = absurd (not-suc-le-zero h)
get_d_mem (k ∷ ks) zero h = Memᴰ.head refl
get_d_mem (k ∷ ks) (suc j) h = Memᴰ.tail (get_d_mem ks j (le_of_suc-le-suc h))

-- ---- the first least

-- the first least is a member
pub first_mem : {f : ℕ → ℕ} {a : ℕ} {ks : List ℕ} → FirstLeast f a ks → a ∈ ks
first_mem (here e h) = Memᴰ.head e
first_mem (later l r) = Memᴰ.tail (first_mem r)

-- no member is less
pub first_le : {f : ℕ → ℕ} {a : ℕ} {ks : List ℕ} → FirstLeast f a ks → {k : ℕ} → k ∈ ks → f a ≤ f k
first_le {f} (here e h) {k} m = ⊎_elim (λ q. le_of_eq (ap f (e ∙ sym q))) (h k) (Memᴰ.cases_cons m)
first_le {f} {a} (later l r) {k} m = ⊎_elim (λ q. subst (λ (y : ℕ). f a ≤ f y) (sym q) (le_of_lt l)) (λ m'. first_le r m') (Memᴰ.cases_cons m)

-- there is only one
pub first_unique : {f : ℕ → ℕ} {a b : ℕ} {ks : List ℕ} → FirstLeast f a ks → FirstLeast f b ks → a ≡ b
first_unique (here e h) (here e' h') = e ∙ sym e'
first_unique {f} {a} {b} (here e h) (later l' r') = absurd (omega (arith, ap f e, h b (first_mem r')))
first_unique {f} {a} {b} (later l r) (here e' h') = absurd (omega (arith, ap f e', h' a (first_mem r)))
first_unique (later l r) (later l' r') = first_unique r r'

-- one more at the front, which is better than the next
front_less : {f : ℕ → ℕ} {a b k : ℕ} {ks : List ℕ} → f k < f b → FirstLeast f a (k ∷ ks) → FirstLeast f a (b ∷ k ∷ ks)
front_less l r = later (lt_of_le_of_lt (first_le r (Memᴰ.head refl)) l) r

-- one more behind the front, which is no better than that
front_kept : {f : ℕ → ℕ} {a b k : ℕ} {ks : List ℕ} → f b ≤ f k → FirstLeast f a (b ∷ ks) → FirstLeast f a (b ∷ k ∷ ks)
front_kept {f} {a} {b} {k} l (here e h) =
    here e (λ j m. ⊎_elim (λ (q : j ≡ k). omega (arith, ap f e, ap f q)) (h j) (Memᴰ.cases_cons m))
front_kept l (later l' r) = later l' (later (lt_of_lt_of_le l' l) r)

least_from_first : (f : ℕ → ℕ) (b : ℕ) (ks : List ℕ) → FirstLeast f (least_from f b ks) (b ∷ ks)
unfolding least_from
least_from_first f b [] = here refl (λ k m. absurd (Memᴰ.not-nil m))
least_from_first f b (k ∷ ks) = go (least_from_first f k ks) (least_from_first f b ks) (ltb (f k) (f b)) refl
  where
    go : FirstLeast f (least_from f k ks) (k ∷ ks) → FirstLeast f (least_from f b ks) (b ∷ ks) → (t : Bool) → ltb (f k) (f b) ≡ t
        → FirstLeast f (least_from f (cond t k b) ks) (b ∷ k ∷ ks)
    go r s true e = front_less (ltb-true (f k) (f b) e) r
    go r s false e = front_kept (ltb-false (f k) (f b) e) s

-- `least_of f ks` is the first least of a list that is not empty
pub least_of_first : (f : ℕ → ℕ) (ks : List ℕ) → 0 < length ks → FirstLeast f (least_of f ks) ks
unfolding least_of
least_of_first f [] h = absurd (not-suc-le-zero h)
least_of_first f (k ∷ ks) h = least_from_first f k ks

-- and is the only one
pub least_of_unique : {f : ℕ → ℕ} {a : ℕ} {ks : List ℕ} → FirstLeast f a ks → least_of f ks ≡ a
least_of_unique {f} {a} {ks} r = first_unique (least_of_first f ks (mem_length (first_mem r))) r

pub least_of_mem : (f : ℕ → ℕ) (ks : List ℕ) → 0 < length ks → least_of f ks ∈ ks
least_of_mem f ks h = first_mem (least_of_first f ks h)

pub least_of_le : (f : ℕ → ℕ) (ks : List ℕ) {k : ℕ} → k ∈ ks → f (least_of f ks) ≤ f k
least_of_le f ks m = first_le (least_of_first f ks (mem_length m)) m

-- ---- a loop that looks for the first least

-- one candidate more at the end
least_from_append : (f : ℕ → ℕ) (b : ℕ) (ks ls : List ℕ) → least_from f b (ks ++ ls) ≡ least_from f (least_from f b ks) ls
unfolding least_from
least_from_append f b [] ls = refl
least_from_append f b (k ∷ ks) ls = least_from_append f (better f b k) ks ls

pub least_of_more : (f : ℕ → ℕ) (ks : List ℕ) (k : ℕ) → 0 < length ks → least_of f (ks ++ (k ∷ [])) ≡ better f (least_of f ks) k
unfolding least_of least_from
least_of_more f [] k h = absurd (not-suc-le-zero h)
least_of_more f (x ∷ ks) k h = least_from_append f x ks (k ∷ [])

-- the first i + 1 of a list
pub take_more : (ks : List ℕ) (i : ℕ) → i < length ks → take (i + 1) ks ≡ take i ks ++ (get_or ks i 0 ∷ [])
take_more ks i h = ap (λ (n : ℕ). take n ks) (add-one i) ∙ take-suc ks i 0 h

least_of_take : (f : ℕ → ℕ) (ks : List ℕ) (i : ℕ) → 0 < i → i < length ks
    → least_of f (take (i + 1) ks) ≡ better f (least_of f (take i ks)) (get_or ks i 0)
least_of_take f ks i p h =
    ap (least_of f) (take_more ks i h)
    ∙ least_of_more f (take i ks) (get_or ks i 0) (omega (arith, length-take i ks))

-- before the first turn: the first of the list
pub least_of_one : (f : ℕ → ℕ) (ks : List ℕ) → 0 < length ks → get_or ks 0 0 ≡ least_of f (take 1 ks)
unfolding least_of least_from
least_of_one f [] h = refl
least_of_one f (k ∷ ks) h = refl

-- a turn of the loop that has the first least of the first i as b: the next is less, or it is not
pub least_next_yes : (f : ℕ → ℕ) (ks : List ℕ) (i b : ℕ) → b ≡ least_of f (take i ks) → 0 < i → i < length ks → f (get_or ks i 0) < f b
    → get_or ks i 0 ≡ least_of f (take (i + 1) ks)
least_next_yes f ks i b e p h l =
    sym (least_of_take f ks i p h ∙ ap (λ (t : Bool). cond t (get_or ks i 0) (least_of f (take i ks))) (lt-ltb _ _ (rw e at l)))

pub least_next_no : (f : ℕ → ℕ) (ks : List ℕ) (i b : ℕ) → b ≡ least_of f (take i ks) → 0 < i → i < length ks → f b ≤ f (get_or ks i 0)
    → b ≡ least_of f (take (i + 1) ks)
least_next_no f ks i b e p h l =
    e ∙ sym (least_of_take f ks i p h ∙ ap (λ (t : Bool). cond t (get_or ks i 0) (least_of f (take i ks))) (le-ltb _ _ (rw e at l)))
