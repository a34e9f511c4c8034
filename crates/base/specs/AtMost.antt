-- Lists of numbers none of which exceeds a bound.
--   AtMost l xs   every number of xs, and the 0 past them, is at most l
use Rattle.std.specs.Prelude.{ℕ, zero, suc, ◌≤◌, List, [], ◌∷◌, ◌++◌, get_or, replicate}
use Rattle.std.proofs.Common.{zero-le}
use Rattle.base.specs.Lists.{list_to}

abbrev pub AtMost : ℕ → List ℕ → Type 0
AtMost l xs = (j : ℕ) → get_or xs j 0 ≤ l

pub none_most : (l : ℕ) → AtMost l []
none_most l j = zero-le

pub one_most : (l x : ℕ) → x ≤ l → AtMost l (x ∷ [])
one_most l x h zero = h
one_most l x h (suc j) = zero-le

pub zeros_most : (l n : ℕ) → AtMost l (replicate n 0)
zeros_most l zero j = zero-le
zeros_most l (suc n) zero = zero-le
zeros_most l (suc n) (suc j) = zeros_most l n j

pub append_most : (l : ℕ) (xs ys : List ℕ) → AtMost l xs → AtMost l ys → AtMost l (xs ++ ys)
append_most l [] ys a b j = b j
append_most l (x ∷ xs) ys a b zero = a zero
append_most l (x ∷ xs) ys a b (suc j) = append_most l xs ys (λ i. a (suc i)) b j

pub list_to_most : (l : ℕ) (g : ℕ → ℕ) (n : ℕ) → ((i : ℕ) → g i ≤ l) → AtMost l (list_to g n)
unfolding list_to
list_to_most l g zero h = none_most l
list_to_most l g (suc n) h = append_most l (list_to g n) (g n ∷ []) (list_to_most l g n h) (one_most l (g n) (h n))
