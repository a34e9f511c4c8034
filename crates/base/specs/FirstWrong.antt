-- The first of so many numbers, from k on, that a test turns away, or the one past the last.
--   wrong_more   a number that passes; wrong_here: one that does not; wrong_last: none is left
--   before_wrong, all_right   all before it pass; where all pass it is the one past the last
use Prim.Native.Nat.{ℕ, zero, suc, ◌+◌, ◌-◌, ◌≤◌, ◌<◌}
use Rattle.std.specs.Prelude.{◌≡◌, Bool}
use Rattle.std.proofs.Math.Path.{refl, sym}
use Rattle.std.proofs.Common.{ap, ◌∙◌, eq-or-lt_of_le}
use Rattle.std.proofs.Math.Logic.{⊎_elim}
use Rattle.std.proofs.Math.Bool.{true, false, cond}
use native.Mathlib.Omega.{arith}

unfoldable pub first_wrong : (ℕ → Bool) → ℕ → ℕ → ℕ
first_wrong ok k zero = k
first_wrong ok k (suc left) = cond (ok k) (first_wrong ok (k + 1) left) k

module _ (ok : ℕ → Bool) where
  pub wrong_more : (k n : ℕ) → k < n → ok k ≡ true → first_wrong ok k (n - k) ≡ first_wrong ok (k + 1) (n - (k + 1))
  unfolding first_wrong
  wrong_more k n h e =
      let q : n - k ≡ suc (n - (k + 1)) = omega arith in
      rw (q, e)

  pub wrong_here : (k n : ℕ) → k < n → ok k ≡ false → first_wrong ok k (n - k) ≡ k
  unfolding first_wrong
  wrong_here k n h e =
      let q : n - k ≡ suc (n - (k + 1)) = omega arith in
      rw (q, e)

  pub wrong_last : (k n : ℕ) → n ≤ k → first_wrong ok k (n - k) ≡ k
  unfolding first_wrong
  wrong_last k n h =
      let q : n - k ≡ 0 = omega arith in
      rw q

  pub before_wrong : (left k i : ℕ) → k ≤ i → i < first_wrong ok k left → ok i ≡ true
  unfolding first_wrong
  before_wrong zero k i a b = absurd (omega arith)
  before_wrong (suc left) k i a b = go (before_wrong left (k + 1) i) (ok k) refl b
    where
      go : (k + 1 ≤ i → i < first_wrong ok (k + 1) left → ok i ≡ true) → (t : Bool) → ok k ≡ t → i < cond t (first_wrong ok (k + 1) left) k → ok i ≡ true
      go later true e b = ⊎_elim (λ (q : k ≡ i). sym (ap ok q) ∙ e) (λ (l : k < i). later (omega arith) b) (eq-or-lt_of_le a)
      go later false e b = absurd (omega arith)

  pub all_right : (k left : ℕ) → ((i : ℕ) → k ≤ i → i < k + left → ok i ≡ true) → first_wrong ok k left ≡ k + left
  unfolding first_wrong
  all_right k zero f = omega arith
  all_right k (suc left) f = rw (f k (omega arith) (omega arith)) (all_right (k + 1) left (λ i a b. f i (omega arith) (omega arith)) ∙ omega arith)
