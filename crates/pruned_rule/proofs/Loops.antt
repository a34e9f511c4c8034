-- Dropping one by one: those of the first i candidates that are within the limit, as i grows.
use Prim.Native.Nat.{ℕ, ◌+◌, ◌<◌}
use mathlib.Core.Path.{◌≡◌, refl, ap}
use mathlib.Core.Bool.{Bool, true, false, cond}
use mathlib.Core.List.{List, [], ◌∷◌, ◌++◌}
use lib.Dec.{leb}
use lib.ListN.{length, get_or, take}
use Rattle.base.specs.Least.{take_more}
use Rattle.pruned_rule.specs.Sift.{kept}

pub kept_append : (v : ℕ → ℕ) (l : ℕ) (ks ls : List ℕ) → kept v l (ks ++ ls) ≡ kept v l ks ++ kept v l ls
unfolding kept
kept_append v l [] ls = refl
kept_append v l (k ∷ ks) ls = step (leb (v k) l) (kept_append v l ks ls)
  where
    step : (t : Bool) → kept v l (ks ++ ls) ≡ kept v l ks ++ kept v l ls
        → cond t (k ∷ kept v l (ks ++ ls)) (kept v l (ks ++ ls)) ≡ cond t (k ∷ kept v l ks) (kept v l ks) ++ kept v l ls
    step true e = ap (λ xs. k ∷ xs) e
    step false e = e

-- the next candidate is within the limit or it is not
pub kept_take : (v : ℕ → ℕ) (l : ℕ) (ks : List ℕ) (i : ℕ) → i < length ks
    → kept v l (take (i + 1) ks) ≡ kept v l (take i ks) ++ cond (leb (v (get_or ks i 0)) l) (get_or ks i 0 ∷ []) []
unfolding kept
kept_take v l ks i h = rw (take_more ks i h, kept_append)
