-- Integers as omega reads them: by two natural numbers, the part above 0 and the part below.
--   up, dn         the two parts: z = up z - dn z
--   parts          what is true of them; added, less, neg: of a sum, a difference, a negation
--   same           equal parts, equal numbers; alike: what an equation says of the parts
--   lt_z_is, le_z_is, eq_z_is   a test of integers is a test of naturals
--   ints           these as a set of rules for omega
use Rattle.std.specs.Prelude.{ℕ, zero, suc, ◌+◌, ◌≤◌, ◌<◌, min, ◌≡◌, refl, Bool, true, false, not, cond, ℤ, pos, negsuc, neg_ℤ, nat_abs, ◌+ℤ◌, ◌-ℤ◌, T, leb, ltb, eqb}
use Rattle.std.proofs.Common.{sym, ap, ◌∙◌, arith, ltb-true, ltb-false, leb-true, leb-false, lt-ltb, le-ltb, le-leb, eqb-true, eq-eqb, ne_eqb, add-zero, zero-add, ltb→lt, nltb→le}
use Rattle.std.proofs.Math.IntN.{sub_ℕ}
use Rattle.std.specs.Int.Signed.{mag, le_z, lt_z, non_neg}
use Rattle.std.proofs.lemmas.Bool.{lt-leb}
use Rattle.std.proofs.Math.Dec.{leb-suc-suc, eqb-suc-suc}

-- the part of z above 0, and the part below: z is up z - dn z
abbrev pub up : ℤ → ℕ
up (pos n) = n
up (negsuc n) = 0

abbrev pub dn : ℤ → ℕ
dn (pos n) = 0
dn (negsuc n) = suc n

-- What omega reads of z: no number has both parts; |z|; and `mag z`, which bounds z in a width (n for n and for -(n + 1)).
-- Only `one` costs omega a split.
pub record Parts (z : ℤ) : Type 0 where
  pub one : min (up z) (dn z) ≡ 0
  pub abs : nat_abs z ≡ up z + dn z
  pub up_mag : up z ≤ mag z
  pub dn_mag : dn z ≤ mag z + 1
  pub mag_abs : mag z ≤ up z + dn z

pub parts : (z : ℤ) → Parts z
parts (pos n) =
    record { one = omega arith; abs = omega arith; up_mag = omega arith; dn_mag = omega arith; mag_abs = omega arith }
parts (negsuc n) =
    record { one = omega arith; abs = omega arith; up_mag = omega arith; dn_mag = omega arith; mag_abs = omega arith }

-- a number is its two parts
pub same : (a b : ℤ) → up a + dn b ≡ up b + dn a → a ≡ b
same (pos m) (pos n) e = ap pos (omega arith)
same (pos m) (negsuc n) e = absurd (omega arith)
same (negsuc m) (pos n) e = absurd (omega arith)
same (negsuc m) (negsuc n) e = ap negsuc (omega arith)

cond_is : (P : ℤ → Type 0) (b : Bool) {x y : ℤ} → (T b → P x) → (T (not b) → P y) → P (cond b x y)
cond_is P true f g = f tt
cond_is P false f g = g tt

difference : (a b : ℕ) → up (sub_ℕ a b) + b ≡ dn (sub_ℕ a b) + a
difference a b =
    cond_is (λ z. up z + b ≡ dn z + a) (ltb a b) (λ t. omega (arith, ltb→lt a b t)) (λ t. omega (arith, nltb→le a b t))

pub sum : (a b : ℤ) → up (a +ℤ b) + (dn a + dn b) ≡ dn (a +ℤ b) + (up a + up b)
sum (pos m) (pos n) = omega arith
sum (pos m) (negsuc n) = omega (arith, difference m (suc n))
sum (negsuc m) (pos n) = omega (arith, difference n (suc m))
sum (negsuc m) (negsuc n) = omega arith

pub neg : (z : ℤ) → (up (neg_ℤ z) ≡ dn z) × (dn (neg_ℤ z) ≡ up z)
neg (pos zero) = (refl, refl)
neg (pos (suc n)) = (refl, refl)
neg (negsuc n) = (refl, refl)

-- what omega reads of a sum and of a difference
pub record Sum (a b s : ℤ) : Type 0 where
  pub eq : up s + (dn a + dn b) ≡ dn s + (up a + up b)
  pub of : Parts s
  pub left : Parts a
  pub right : Parts b

pub added : (a b : ℤ) → Sum a b (a +ℤ b)
added a b = record { eq = sum a b; of = parts (a +ℤ b); left = parts a; right = parts b }

pub record Diff (a b s : ℤ) : Type 0 where
  pub eq : up s + (dn a + up b) ≡ dn s + (up a + dn b)
  pub of : Parts s
  pub left : Parts a
  pub right : Parts b

pub less : (a b : ℤ) → Diff a b (a -ℤ b)
less a b = record { eq = omega (arith, sum a (neg_ℤ b), neg b); of = parts (a -ℤ b); left = parts a; right = parts b }

-- an equation of two numbers
pub up_eq : (a b : ℤ) → a ≡ b → up a ≡ up b
up_eq a b e = ap up e

pub dn_eq : (a b : ℤ) → a ≡ b → dn a ≡ dn b
dn_eq a b e = ap dn e

pub abs_eq : (a b : ℤ) → a ≡ b → nat_abs a ≡ nat_abs b
abs_eq a b e = ap nat_abs e

-- what omega reads of an equation that stands in no hypothesis
pub record Alike (x z : ℤ) : Type 0 where
  pub above : up x ≡ up z
  pub below : dn x ≡ dn z
  pub size : nat_abs x ≡ nat_abs z
  pub of : Parts z

pub alike : {x z : ℤ} → x ≡ z → Alike x z
alike {z} e = record { above = ap up e; below = ap dn e; size = ap nat_abs e; of = parts z }

-- the tests of the order, read by the parts
pub lt_z_is : (a b : ℤ) → lt_z a b ≡ ltb (up a + dn b) (up b + dn a)
lt_z_is (pos m) (pos n) = simp add-zero
lt_z_is (pos m) (negsuc n) = sym (le-ltb (m + suc n) 0 (omega arith))
lt_z_is (negsuc m) (pos n) = sym (lt-ltb 0 (n + suc m) (omega arith))
lt_z_is (negsuc m) (negsuc n) = simp (zero-add, leb-suc-suc)

pub le_z_is : (a b : ℤ) → le_z a b ≡ leb (up a + dn b) (up b + dn a)
le_z_is (pos m) (pos n) = simp add-zero
le_z_is (pos m) (negsuc n) = sym (lt-leb (m + suc n) 0 (omega arith))
le_z_is (negsuc m) (pos n) = sym (le-leb 0 (n + suc m) (omega arith))
le_z_is (negsuc m) (negsuc n) = simp (zero-add, leb-suc-suc)

pub lt_yes : (a b : ℤ) → lt_z a b ≡ true → up a + dn b < up b + dn a
lt_yes a b e = ltb-true _ _ (sym (lt_z_is a b) ∙ e)

pub lt_no : (a b : ℤ) → lt_z a b ≡ false → up b + dn a ≤ up a + dn b
lt_no a b e = ltb-false _ _ (sym (lt_z_is a b) ∙ e)

pub le_yes : (a b : ℤ) → le_z a b ≡ true → up a + dn b ≤ up b + dn a
le_yes a b e = leb-true _ _ (sym (le_z_is a b) ∙ e)

pub le_no : (a b : ℤ) → le_z a b ≡ false → up b + dn a < up a + dn b
le_no a b e = leb-false _ _ (sym (le_z_is a b) ∙ e)

pub nonneg : (z : ℤ) → dn z ≡ 0 → T (non_neg z)
nonneg (pos n) e = tt
nonneg (negsuc n) e = absurd (omega arith)

-- the test of equality
abbrev pub eq_z : ℤ → ℤ → Bool
eq_z (pos m) (pos n) = eqb m n
eq_z (pos m) (negsuc n) = false
eq_z (negsuc m) (pos n) = false
eq_z (negsuc m) (negsuc n) = eqb n m

pub eq_z_is : (a b : ℤ) → eq_z a b ≡ eqb (up a + dn b) (up b + dn a)
eq_z_is (pos m) (pos n) = simp add-zero
eq_z_is (pos m) (negsuc n) = sym (ne_eqb (m + suc n) 0 (λ e. omega arith))
eq_z_is (negsuc m) (pos n) = sym (ne_eqb 0 (n + suc m) (λ e. omega arith))
eq_z_is (negsuc m) (negsuc n) = simp (zero-add, eqb-suc-suc)

pub eq_z_self : (z : ℤ) → eq_z z z ≡ true
eq_z_self z = eq_z_is z z ∙ eq-eqb (up z + dn z) (up z + dn z) refl

pub eq_yes : (a b : ℤ) → eq_z a b ≡ true → up a + dn b ≡ up b + dn a
eq_yes a b e = eqb-true _ _ (sym (eq_z_is a b) ∙ e)

-- omega's rules for the integers: it then reads the equations and the tests of integers in reach, and proves an equation of two, and that one is not negative
pub ruleset ints = (same, up_eq, dn_eq, abs_eq, lt_yes, lt_no, le_yes, le_no, eq_yes, nonneg)
