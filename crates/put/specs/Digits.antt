-- A number's decimal digits as bytes.
--   digits    the digits of n, at most so many; decimal: all of them, for no number of 64 bits has more than 20
--   digits_one, digits_more     the digits of a number below 10, and of another
--   digits_length, digits_few   no more digits than wanted; no more than a number below that limit has
use Rattle.std.specs.Prelude.{ℕ, zero, suc, ◌+◌, ◌-◌, ◌*◌, ◌/◌, ◌%◌, ◌≤◌, ◌<◌, ◌≡◌, List, [], ◌∷◌, ◌++◌, Bool, true, false, cond, length, ltb}
use Rattle.std.proofs.Common.{arith, lt-ltb, le-ltb, length-append}

unfoldable pub digits : ℕ → ℕ → List ℕ
digits zero n = []
digits (suc most) n = cond (ltb n 10) ((48 + n) ∷ []) (digits most (n / 10) ++ ((48 + n % 10) ∷ []))

abbrev pub decimal : ℕ → List ℕ
decimal n = digits 20 n

pub digits_one : (most n : ℕ) → 0 < most → n < 10 → digits most n ≡ (48 + n) ∷ []
unfolding digits
digits_one zero n p q = absurd (omega arith)
digits_one (suc most) n p q = rw (lt-ltb n 10 q)

pub digits_more : (most n : ℕ) → 0 < most → 10 ≤ n → digits most n ≡ digits (most - 1) (n / 10) ++ ((48 + n % 10) ∷ [])
unfolding digits
digits_more zero n p q = absurd (omega arith)
digits_more (suc most) n p q =
    let e : suc most - 1 ≡ most = omega arith in
    rw (le-ltb n 10 q, e)

-- the length of one of two lists
pub cond_length : (t : Bool) (x y : List ℕ) (m : ℕ) → length x ≤ m → length y ≤ m → length (cond t x y) ≤ m
cond_length true x y m p q = p
cond_length false x y m p q = q

pub digits_length : (most n : ℕ) → length (digits most n) ≤ most
unfolding digits
digits_length zero n = omega arith
digits_length (suc most) n =
    cond_length (ltb n 10) ((48 + n) ∷ []) (digits most (n / 10) ++ ((48 + n % 10) ∷ [])) (suc most) (omega arith)
    (omega (arith, length-append (digits most (n / 10)) ((48 + n % 10) ∷ []), digits_length most (n / 10)))

-- the first number of k + 2 digits
unfoldable pub limit : ℕ → ℕ
limit zero = 10
limit (suc k) = 10 * limit k

pub digits_few : (k most n : ℕ) → n < limit k → length (digits most n) ≤ suc k
unfolding digits limit
digits_few k zero n h = omega arith
digits_few zero (suc most) n h = rw (digits_one (suc most) n (omega arith) h) (omega arith)
digits_few (suc k) (suc most) n h =
    cond_length (ltb n 10) ((48 + n) ∷ []) (digits most (n / 10) ++ ((48 + n % 10) ∷ [])) (suc (suc k)) (omega arith)
    (omega (arith, length-append (digits most (n / 10)) ((48 + n % 10) ∷ []), digits_few k most (n / 10) (omega arith)))
