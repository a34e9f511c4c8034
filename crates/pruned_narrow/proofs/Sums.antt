-- Sums of what one number has more than another.
--   fill_same     a loop that stores what is there; fill_added: two loops, of which the second adds
--   two_by_two    a sum of two rows and two columns
--   minus_le      what numbers have more is at most the numbers; next_le: also with the next
--   more_le       the same of squares; less_le: what they have more and the others are at least the squares
--   absolute_is   absolute differences by what the one has more and the sums of both
use Prim.Native.Nat.{ℕ, zero, suc, ◌+◌, ◌-◌, ◌≤◌, ◌<◌}
use mathlib.Core.Path.{◌≡◌, refl, sym, ap, ◌∙◌}
use mathlib.Core.List.{List}
use native.Mathlib.Omega.{arith}
use lib.ListN.{length, get_or, set}
use lib.Seq.{set-get_or}
use native.Mathlib.Numerals.{add-one}
use Rattle.base.specs.Lists.{fill_to, fill_none, fill_ext}
use Rattle.base.specs.Sum.{sum_to, sum_to_ext, sum_to_mono, sum_to_add, sum_to_more, sum_over, sum_over_ext, sum_over_mono}
use Rattle.signed.specs.Values.{abs_diff}
use Rattle.boxes.proofs.Filled.{filled_at, fill_turn, fill_again, prefix_le}
use Rattle.pruned_narrow.specs.Narrow.{turned}

-- ---- arrays

-- filled with what is there
pub fill_same : (d : List ℕ) (g : ℕ → ℕ) (n : ℕ) → n ≤ length d → ((i : ℕ) → i < n → g i ≡ get_or d i 0) → d ≡ fill_to d 0 g n
fill_same d g zero room e = fill_none d 0 g
fill_same d g (suc n) room e =
    sym (set-get_or d n 0)
    ∙ ap (λ (x : ℕ). set d n x) (sym (e n (omega arith)))
    ∙ fill_turn d d g n (g n) (fill_same d g n (omega arith) (λ i h. e i (omega arith))) refl (omega arith)
    ∙ ap (λ (k : ℕ). fill_to d 0 g k) (add-one n)

-- filled, then added to
pub fill_added : (d xs ys : List ℕ) (g h : ℕ → ℕ) (n : ℕ) → n ≤ length d → xs ≡ fill_to d 0 g n → ys ≡ fill_to xs 0 (λ i. get_or xs i 0 + h i) n
    → ys ≡ fill_to d 0 (λ i. g i + h i) n
fill_added d xs ys g h n room e f =
    f
    ∙ ap (λ (zs : List ℕ). fill_to zs 0 (λ i. get_or zs i 0 + h i) n) e
    ∙ fill_again d g _ n
    ∙ fill_ext d 0 _ _ n (λ i l. ap (λ (x : ℕ). x + h i) (filled_at d g n room i l))

-- ---- sums

pub two_by_two : (f : ℕ → ℕ → ℕ) → sum_over 2 2 f ≡ f 0 0 + f 0 1 + (f 1 0 + f 1 1)
unfolding sum_to
two_by_two f = omega arith

sum_over_add : (k l : ℕ) (f g : ℕ → ℕ → ℕ) → sum_over k l (λ p q. f p q + g p q) ≡ sum_over k l f + sum_over k l g
sum_over_add k l f g = sum_to_ext _ _ k (λ p hp. sum_to_add (f p) (g p) l) ∙ sum_to_add (λ p. sum_to (f p) l) (λ p. sum_to (g p) l) k

pub minus_le : (f g : ℕ → ℕ) (n : ℕ) → sum_to (λ q. f q - g q) n ≤ sum_to f n
minus_le f g n = sum_to_mono _ _ n (λ q h. omega arith)

pub next_le : (f g : ℕ → ℕ) (q n : ℕ) → q < n → sum_to (λ i. f i - g i) q + (f q - g q) ≤ sum_to f n
next_le f g q n h = omega (arith, sum_to_more (λ i. f i - g i) q, minus_le f g (q + 1), prefix_le f (q + 1) n (omega arith))

absolute_one : (a b : ℕ) → abs_diff b a + a ≡ (a - b) + (a - b) + b
absolute_one a b = omega arith

module _ (k : ℕ) (f g : ℕ → ℕ → ℕ) where
  abbrev more : ℕ
  more = sum_over k k (λ p q. f p q - g p q)

  pub more_le : more ≤ sum_over k k f
  more_le = sum_over_mono k k _ _ (λ p q hp hq. omega arith)

  pub less_le : sum_over k k f ≤ more + sum_over k k g
  less_le =
      let e = sum_over_add k k (λ p q. f p q - g p q) g in
      let h = sum_over_mono k k f (λ p q. (f p q - g p q) + g p q) (λ p q hp hq. omega arith) in
      omega (arith, e, h)

  pub absolute_is : turned more (sum_over k k f) (sum_over k k g) ≡ sum_over k k (λ p q. abs_diff (g p q) (f p q))
  absolute_is =
      let a = sum_over_add k k (λ p q. abs_diff (g p q) (f p q)) f in
      let b = sum_over_add k k (λ p q. (f p q - g p q) + (f p q - g p q)) g in
      let c = sum_over_add k k (λ p q. f p q - g p q) (λ p q. f p q - g p q) in
      let e = sum_over_ext k k (λ p q. abs_diff (g p q) (f p q) + f p q) (λ p q. (f p q - g p q) + (f p q - g p q) + g p q) (λ p q hp hq. absolute_one (f p q) (g p q)) in
      omega (arith, a, b, c, e, more_le, less_le)
