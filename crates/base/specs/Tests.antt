-- Tests: what the parts of a test that holds say, and a rule at every number below a bound by one test that antt computes.
use Rattle.std.specs.Prelude.{ℕ, zero, suc, ◌≤◌, ◌<◌, ◌≡◌, refl, ◌⊎◌, Bool, true, false, cond, not, ◌&&◌, ◌||◌, T, leb, eqb}
use Rattle.std.proofs.Common.{sym, subst, ◌∙◌, inl, inr, ⊎_elim, eq-or-lt_of_le, le_of_suc-le-suc, not-suc-le-zero, lt-suc_self, arith, leb→le, eqb→eq}
use Rattle.std.specs.Bool.{beq}
use Rattle.std.proofs.Math.Nat.{le_step}
use Rattle.std.proofs.lemmas.Bool.{not-true, not-false}
use mir.Val.{bool_byte}

pub and_left : (a b : Bool) → T (a && b) → T a
and_left true b t = tt
and_left false b t = t

pub and_right : (a b : Bool) → T (a && b) → T b
and_right true b t = t
and_right false b t = absurd t

pub and_both : (a b : Bool) → T a → T b → T (a && b)
and_both true b s t = t
and_both false b s t = s

-- two bounds tested together
pub le_both : (a b c d : ℕ) → T (leb a b && leb c d) → (a ≤ b) × (c ≤ d)
le_both a b c d t = (leb→le a b (and_left (leb a b) (leb c d) t), leb→le c d (and_right (leb a b) (leb c d) t))

pub or_cases : (a b : Bool) → T (a || b) → T a ⊎ T b
or_cases true b t = inl tt
or_cases false b t = inr t

pub or_true : (a : Bool) → (a || true) ≡ true
or_true true = refl
or_true false = refl

-- what holds of a number holds of one that the test finds equal
pub eqb_subst : (P : ℕ → Type 0) (n k : ℕ) → P k → T (eqb n k) → P n
eqb_subst P n k p t = subst P (sym (eqb→eq n k t)) p

-- a test that holds, as the two ways of saying so
pub T_true : (b : Bool) → T b → b ≡ true
T_true true t = refl
T_true false t = absurd t

pub true_T : (b : Bool) → b ≡ true → T b
true_T b e = subst T (sym e) tt

pub T_false : (b : Bool) → (T b → ⊥) → b ≡ false
T_false true n = absurd (n tt)
T_false false n = refl

-- a function answered r, which is the test t, and the code went on where r holds (`passed`) or where it fails (`failed`)
pub passed : {r t : Bool} → r ≡ t → not r ≡ false → t ≡ true
passed {r} e h = sym e ∙ not-false r h

pub failed : {r t : Bool} → r ≡ t → not r ≡ true → t ≡ false
failed {r} e h = sym e ∙ not-true r h

-- the same, where what the code went on by is told of r itself
pub told : {r t b : Bool} → r ≡ t → r ≡ b → t ≡ b
told e h = sym e ∙ h

-- 1 where a test holds
abbrev pub one : Bool → ℕ
one t = cond t 1 0

-- as code makes it of a test
pub byte_one : (t : Bool) → bool_byte t ≡ one t
byte_one true = refl
byte_one false = refl

pub one_le : (t : Bool) → one t ≤ 1
one_le true = omega arith
one_le false = omega arith

-- two tests that agree are the same
pub same_test : (a b : Bool) → T (beq a b) → a ≡ b
same_test true true t = refl
same_test true false t = absurd t
same_test false true t = absurd t
same_test false false t = refl

pub iff_test : (a b : Bool) → (T a → T b) → (T b → T a) → a ≡ b
iff_test true true f g = refl
iff_test true false f g = absurd (f tt)
iff_test false true f g = absurd (g tt)
iff_test false false f g = refl

-- the test holds at each number below n
abbrev pub all_below : (ℕ → Bool) → ℕ → Bool
all_below p zero = true
all_below p (suc n) = p n && all_below p n

pub check_below : (p : ℕ → Bool) (n : ℕ) → T (all_below p n) → (i : ℕ) → i < n → T (p i)
check_below p zero t i h = absurd (not-suc-le-zero h)
check_below p (suc n) t i h =
    ⊎_elim (λ e. subst (λ (k : ℕ). T (p k)) (sym e) (and_left (p n) (all_below p n) t))
    (λ l. check_below p n (and_right (p n) (all_below p n) t) i l)
    (eq-or-lt_of_le (le_of_suc-le-suc h))

pub all-below : (p : ℕ → Bool) (n : ℕ) → ((i : ℕ) → i < n → T (p i)) → T (all_below p n)
all-below p zero h = tt
all-below p (suc n) h = and_both (p n) (all_below p n) (h n (lt-suc_self n)) (all-below p n (λ i l. h i (le_step l)))
