-- 01, "The four searches", search 4: "w 2, 4, 8 or 16, so w has just one bit set".
--   cross_window   the four windows
--   one-bit       in 2..16 they are the numbers with one bit set
--   log2          of such a window: its trailing zeros
use Rattle.std.specs.Prelude.{ℕ, ◌^◌, ◌≤◌, ◌<◌, ◌≡◌, refl, Bool, false, ◌||◌, ◌&&◌, T, leb, eqb}
use Rattle.std.specs.Bool.{beq}
use Rattle.std.proofs.Common.{⊎_elim, arith, lit≤, ne_eqb, le-leb}
use Rattle.std.specs.Int.Count.{ones, count_trailing_zeros}
use Rattle.base.specs.Tests.{all_below, check_below, same_test, or_cases, eqb_subst}

unfoldable pub cross_window : ℕ → Bool
cross_window w = eqb w 2 || (eqb w 4 || (eqb w 8 || eqb w 16))

-- below 17 that is: at least 2, and one bit set. A test at 17 numbers
abbrev one_bit : ℕ → Bool
one_bit w = beq (leb 2 w && eqb (ones w) 1) (cross_window w)

one_bit_all : T (all_below one_bit 17)
unfolding ones cross_window
one_bit_all = tt

pub one-bit : (w : ℕ) → 2 ≤ w → w ≤ 16 → eqb (ones w) 1 ≡ cross_window w
one-bit w a b =
    rw (le-leb 2 w a)
    at (same_test (leb 2 w && eqb (ones w) 1) (cross_window w) (check_below one_bit 17 one_bit_all w (omega arith)))

none : (w : ℕ) → (w ≡ 2 → ⊥) → (w ≡ 4 → ⊥) → (w ≡ 8 → ⊥) → (w ≡ 16 → ⊥) → cross_window w ≡ false
unfolding cross_window
none w a b c d = simp (ne_eqb w 2 a, ne_eqb w 4 b, ne_eqb w 8 c, ne_eqb w 16 d)

pub none_below : (w : ℕ) → w < 2 → cross_window w ≡ false
none_below w h = none w (λ e. omega arith) (λ e. omega arith) (λ e. omega arith) (λ e. omega arith)

pub none_above : (w : ℕ) → 16 < w → cross_window w ≡ false
none_above w h = none w (λ e. omega arith) (λ e. omega arith) (λ e. omega arith) (λ e. omega arith)

-- what holds of the four windows holds of each accepted one
pub cross_elim : (P : ℕ → Type 0) → P 2 → P 4 → P 8 → P 16 → (w : ℕ) → T (cross_window w) → P w
unfolding cross_window
cross_elim P p2 p4 p8 p16 w t =
    ⊎_elim (eqb_subst P w 2 p2)
    (λ u.
    ⊎_elim (eqb_subst P w 4 p4)
    (λ v. ⊎_elim (eqb_subst P w 8 p8) (eqb_subst P w 16 p16) (or_cases (eqb w 8) (eqb w 16) v))
    (or_cases (eqb w 4) (eqb w 8 || eqb w 16) u))
    (or_cases (eqb w 2) (eqb w 4 || (eqb w 8 || eqb w 16)) t)

-- log2 w
abbrev pub log2 : ℕ → ℕ
log2 w = count_trailing_zeros 64 w

pub record Cross (w : ℕ) : Type 0 where
  pub low : 2 ≤ w
  pub high : w ≤ 16
  pub log : 2 ^ log2 w ≡ w
  pub few : log2 w ≤ 4

pub cross : (w : ℕ) → T (cross_window w) → Cross w
unfolding count_trailing_zeros
cross =
    cross_elim Cross
    (record { low = lit≤ tt; high = lit≤ tt; log = refl; few = lit≤ tt })
    (record { low = lit≤ tt; high = lit≤ tt; log = refl; few = lit≤ tt })
    (record { low = lit≤ tt; high = lit≤ tt; log = refl; few = lit≤ tt })
    (record { low = lit≤ tt; high = lit≤ tt; log = refl; few = lit≤ tt })
