-- Rows of one grey, pel by pel, and the turns of the loops that test them.
--   one_grey_is   each pel of them is the first
--   none_yes      whether none of so many were counted that fail a test: one more that does not fail; none_no: that does
--   all_yes       whether all pass it: one more that does; all_not: where one does not
use Prim.Native.Nat.{ℕ, ◌+◌, ◌*◌, ◌<◌}
use mathlib.Core.Path.{◌≡◌, refl, subst}
use mathlib.Core.Bool.{Bool, true, false}
use mathlib.Core.List.{List}
use native.Mathlib.Nat.{add-zero}
use native.Mathlib.Numerals.{add-one}
use native.Mathlib.Omega.{arith}
use borrow.Author.Tests.{ne_eqb}
use lib.Dec.{T, eqb, eqb→eq}
use lib.ListN.{get_or}
use Rattle.base.specs.Tests.{all_below, check_below, true_T}
use Rattle.window_copy.specs.Grey.{row_is, one_grey}

pub one_grey_is : (frame : List ℕ) (width from rows columns : ℕ) → T (one_grey frame width from rows columns) → (i j : ℕ) → i < rows → j < columns
    → get_or frame (from + i * width + j) 0 ≡ get_or frame from 0
unfolding one_grey
one_grey_is frame width from rows columns t i j hi hj =
    eqb→eq _ _ (check_below _ columns (check_below (row_is frame width from columns) rows t i hi) j hj)

module _ (p : ℕ → Bool) where
  pub all_yes : (n : ℕ) → all_below p n ≡ true → p n ≡ true → all_below p (n + 1) ≡ true
  all_yes n e q = rw (add-one, q, e)

  pub all_not : (n i : ℕ) → i < n → p i ≡ false → all_below p n ≡ false
  all_not n i h e = go (all_below p n) refl
    where
      go : (t : Bool) → all_below p n ≡ t → t ≡ false
      go true q = absurd (subst T e (check_below p n (true_T (all_below p n) q) i h))
      go false q = refl

  -- m of the first n were counted
  pub none_yes : (m n : ℕ) → eqb m 0 ≡ all_below p n → p n ≡ true → eqb (m + 0) 0 ≡ all_below p (n + 1)
  none_yes m n e q = rw (add-one, q, add-zero, e)

  pub none_no : (m n : ℕ) → p n ≡ false → eqb (m + 1) 0 ≡ all_below p (n + 1)
  none_no m n q = rw (add-one n, q) (ne_eqb (m + 1) 0 (λ e. omega arith))
