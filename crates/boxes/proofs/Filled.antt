-- Arrays that a loop fills from place 0, and the first terms of a sum.
--   filled_at    what stands in such an array; filled_next: at the place that is next
--   fill_turn    a turn of such a loop; fill_again: two loops
--   prefix_le    the first terms of a sum are at most the sum
use Prim.Native.Nat.{ℕ, ◌+◌, ◌-◌, ◌≤◌, ◌<◌}
use mathlib.Core.Path.{◌≡◌, sym, ap, ◌∙◌}
use mathlib.Core.List.{List}
use native.Mathlib.Nat.{zero-add}
use native.Mathlib.Omega.{arith}
use lib.ListN.{length, get_or, set}
use Rattle.base.specs.Lists.{fill_to, fill_front, list_to, length_list_to, fill_in, fill_after, fill_zero, drop_over}
use Rattle.base.specs.Sum.{sum_to, sum_to_cut}

module _ (d : List ℕ) (g : ℕ → ℕ) (n : ℕ) (room : n ≤ length d) where
  pub filled_at : (i : ℕ) → i < n → get_or (fill_to d 0 g n) i 0 ≡ g i
  filled_at i h = ap (λ (k : ℕ). get_or (fill_to d 0 g n) k 0) (sym (zero-add i)) ∙ fill_in d 0 g n i 0 (omega arith) h

  pub filled_next : get_or (fill_to d 0 g n) n 0 ≡ get_or d n 0
  filled_next =
      let e : 0 + n + 0 ≡ n = omega arith in
      rw e at (fill_after d 0 g n 0 0 (omega arith))

pub fill_turn : (d xs : List ℕ) (g : ℕ → ℕ) (n x : ℕ) → xs ≡ fill_to d 0 g n → x ≡ g n → n < length d → set xs n x ≡ fill_to d 0 g (n + 1)
fill_turn d xs g n x e f h = rw (e, f) (fill_front d g n h)

pub fill_again : (d : List ℕ) (g h : ℕ → ℕ) (n : ℕ) → fill_to (fill_to d 0 g n) 0 h n ≡ fill_to d 0 h n
fill_again d g h n =
    fill_zero (fill_to d 0 g n) h n ∙ rw (fill_zero d g n, drop_over (list_to g n) d n n (length_list_to g n) (omega arith)) (sym (fill_zero d h n))

-- the first q of n
pub prefix_le : (f : ℕ → ℕ) (q n : ℕ) → q ≤ n → sum_to f q ≤ sum_to f n
prefix_le f q n h =
    let e : q + (n - q) ≡ n = omega arith in
    omega (arith, ap (sum_to f) e, sum_to_cut f q (n - q))
