-- The first greatest of scores.
--   most_to score n   of the numbers below n the one of the greatest score, the first where several are equal
--   most_one         of one; most_more: one score more, as most_yes (it is greater) and most_no say
--   most_below       it is one of them; most_ext: of equal scores
--   greatest         none of them has a greater score, and those before it have less
use Rattle.std.specs.Prelude.{ℕ, zero, suc, ◌+◌, ◌≤◌, ◌<◌, ◌≡◌, refl, Bool, true, false, cond, ltb}
use Rattle.std.proofs.Common.{sym, ap, ◌∙◌, subst, ⊎_elim, le_of_lt, not-suc-le-zero, le_of_suc-le-suc, eq-or-lt_of_le, add-one, arith, lt-ltb, le-ltb, ltb-true, ltb-false}

-- a later one replaces only with a greater score
unfoldable pub most_to : (ℕ → ℕ) → ℕ → ℕ
most_to score zero = 0
most_to score (suc n) = cond (ltb (score (most_to score n)) (score n)) n (most_to score n)

cond_same : (b : Bool) (a : ℕ) → cond b a a ≡ a
cond_same true a = refl
cond_same false a = refl

pub most_one : (score : ℕ → ℕ) → most_to score 1 ≡ 0
unfolding most_to
most_one score = cond_same (ltb (score 0) (score 0)) 0

most_more : (score : ℕ → ℕ) (n : ℕ) → most_to score (n + 1) ≡ cond (ltb (score (most_to score n)) (score n)) n (most_to score n)
unfolding most_to
most_more score n = rw add-one

-- a greater one replaces, and else the one before stays
pub most_yes : (score : ℕ → ℕ) (n : ℕ) → score (most_to score n) < score n → n ≡ most_to score (n + 1)
most_yes score n h = sym (most_more score n ∙ simp (lt-ltb (score (most_to score n)) (score n) h))

pub most_no : (score : ℕ → ℕ) (n : ℕ) → score n ≤ score (most_to score n) → most_to score n ≡ most_to score (n + 1)
most_no score n h = sym (most_more score n ∙ simp (le-ltb (score (most_to score n)) (score n) h))

cond_below : (b : Bool) (n m k : ℕ) → n < k → m < k → cond b n m < k
cond_below true n m k h j = h
cond_below false n m k h j = j

-- the greatest of the first n + 1 is one of them
pub most_below : (score : ℕ → ℕ) (n : ℕ) → most_to score (suc n) < suc n
unfolding most_to
most_below score zero = subst (λ m. m < 1) (sym (most_one score)) (omega arith)
most_below score (suc n) =
    let h : most_to score (suc n) < suc n = most_below score n in
    cond_below (ltb (score (most_to score (suc n))) (score (suc n))) (suc n) (most_to score (suc n)) (suc (suc n)) (omega arith) (omega arith)

-- one turn: none passed has a greater score than m, and those before m have less
turn : (score : ℕ → ℕ) (n m : ℕ) → m ≤ n → ((k : ℕ) → k < n → (score k ≤ score m) × (k < m → score k < score m))
    → (b : Bool) → ltb (score m) (score n) ≡ b
    → (k : ℕ) → k < suc n → (score k ≤ score (cond b n m)) × (k < cond b n m → score k < score (cond b n m))
turn score n m h f true e k j =
    let p : score m < score n = ltb-true (score m) (score n) e in
    ⊎_elim (λ (q : k ≡ n). let r : score k ≡ score n = ap score q in omega arith)
    (λ (q : k < n). let r = (f k q).0 in omega arith)
    (eq-or-lt_of_le (le_of_suc-le-suc j))
turn score n m h f false e k j =
    let p : score n ≤ score m = ltb-false (score m) (score n) e in
    ⊎_elim (λ (q : k ≡ n). let r : score k ≡ score n = ap score q in (omega arith, λ l. omega (arith, h)))
    (f k)
    (eq-or-lt_of_le (le_of_suc-le-suc j))

most_le : (score : ℕ → ℕ) (n : ℕ) → most_to score n ≤ n
unfolding most_to
most_le score zero = omega arith
most_le score (suc n) = le_of_lt (most_below score n)

pub most_ext : (f g : ℕ → ℕ) (n : ℕ) → ((k : ℕ) → k < n → f k ≡ g k) → most_to f n ≡ most_to g n
unfolding most_to
most_ext f g zero e = refl
most_ext f g (suc n) e = rw (most_ext f g n (λ k h. e k (omega arith)), e (most_to g n) (omega (arith, most_le g n)), e n (omega arith))

pub greatest : (score : ℕ → ℕ) (n k : ℕ) → k < n → (score k ≤ score (most_to score n)) × (k < most_to score n → score k < score (most_to score n))
unfolding most_to
greatest score zero k h = absurd (not-suc-le-zero h)
greatest score (suc n) k h = turn score n (most_to score n) (most_le score n) (greatest score n) (ltb (score (most_to score n)) (score n)) refl k h
