-- The two parts of a list at a limit: each member stands in one of them, so nothing is lost, and a first least within the limit stays the first.
use Prim.Native.Nat.{ℕ, ◌+◌, ◌≤◌, ◌<◌}
use mathlib.Core.Path.{◌≡◌, refl, sym, ap, subst}
use mathlib.Core.Logic.{⊎_elim}
use mathlib.Core.Bool.{Bool, true, false, cond}
use mathlib.Core.List.Memᴰ
use mathlib.Core.List.{List, [], ◌∷◌, ◌++◌}
use native.Mathlib.Omega.{arith}
use borrow.Author.Tests.{leb-true, leb-false}
use lib.Dec.{leb}
use lib.ListN.{length}
use Rattle.base.specs.Least.{◌∈◌, FirstLeast, here, later, first_mem}
use Rattle.pruned_rule.specs.Sift.{kept, exceeding, total}

-- ys are the members of ks within the limit and ns those over it, each in its order
pub data Parted (v : ℕ → ℕ) (l : ℕ) : List ℕ → List ℕ → List ℕ → Type 0 where
  empty : Parted v l [] [] []
  stays : {k : ℕ} {ks ys ns : List ℕ} → v k ≤ l → Parted v l ks ys ns → Parted v l (k ∷ ks) (k ∷ ys) ns
  goes : {k : ℕ} {ks ys ns : List ℕ} → l < v k → Parted v l ks ys ns → Parted v l (k ∷ ks) ys (k ∷ ns)

pub parted : (v : ℕ → ℕ) (l : ℕ) (ks : List ℕ) → Parted v l ks (kept v l ks) (exceeding v l ks)
unfolding kept exceeding
parted v l [] = empty
parted v l (k ∷ ks) = step (parted v l ks) (leb (v k) l) refl
  where
    step : Parted v l ks (kept v l ks) (exceeding v l ks) → (t : Bool) → leb (v k) l ≡ t
        → Parted v l (k ∷ ks) (cond t (k ∷ kept v l ks) (kept v l ks)) (cond t (exceeding v l ks) (k ∷ exceeding v l ks))
    step r true e = stays (leb-true (v k) l e) r
    step r false e = goes (leb-false (v k) l e) r

-- each sum over ks is the sum over the two parts: they have each candidate as often as ks has it
pub parted_total : {v : ℕ → ℕ} {l : ℕ} {ks ys ns : List ℕ} (g : ℕ → ℕ) → Parted v l ks ys ns → total g ys + total g ns ≡ total g ks
unfolding total
parted_total g empty = refl
parted_total g (stays h r) = let ih = parted_total g r in omega arith
parted_total g (goes h r) = let ih = parted_total g r in omega arith

pub parted_kept : {v : ℕ → ℕ} {l : ℕ} {ks ys ns : List ℕ} → Parted v l ks ys ns → {k : ℕ} → k ∈ ys → (k ∈ ks) × (v k ≤ l)
parted_kept empty m = absurd (Memᴰ.not-nil m)
parted_kept {v} {l} (stays h r) m =
    ⊎_elim (λ q. (Memᴰ.head q, subst (λ (x : ℕ). v x ≤ l) (sym q) h)) (λ m'. let (i, le) = parted_kept r m' in (Memᴰ.tail i, le))
    (Memᴰ.cases_cons m)
parted_kept (goes h r) m = let (i, le) = parted_kept r m in (Memᴰ.tail i, le)

pub parted_over : {v : ℕ → ℕ} {l : ℕ} {ks ys ns : List ℕ} → Parted v l ks ys ns → {k : ℕ} → k ∈ ns → (k ∈ ks) × (l < v k)
parted_over empty m = absurd (Memᴰ.not-nil m)
parted_over (stays h r) m = let (i, lt) = parted_over r m in (Memᴰ.tail i, lt)
parted_over {v} {l} (goes h r) m =
    ⊎_elim (λ q. (Memᴰ.head q, subst (λ (x : ℕ). l < v x) (sym q) h)) (λ m'. let (i, lt) = parted_over r m' in (Memᴰ.tail i, lt))
    (Memᴰ.cases_cons m)

-- a first least that is within the limit is still the first least of those within it
pub parted_first : {v : ℕ → ℕ} {l : ℕ} {ks ys ns : List ℕ} {f : ℕ → ℕ} {a : ℕ} → v a ≤ l → Parted v l ks ys ns → FirstLeast f a ks → FirstLeast f a ys
parted_first w empty r = absurd (Memᴰ.not-nil (first_mem r))
parted_first w (stays h r) (here e g) = here e (λ k m. g k (parted_kept r m).0)
parted_first w (stays h r) (later lt s) = later lt (parted_first w r s)
parted_first {v} {l} w (goes h r) (here e g) = absurd (omega (arith, ap v e))
parted_first w (goes h r) (later lt s) = parted_first w r s

-- `total` counts with g = 1
pub total_length : (ks : List ℕ) → total (λ k. 1) ks ≡ length ks
unfolding total
total_length [] = refl
total_length (k ∷ ks) = let ih = total_length ks in omega arith

pub total_append : (g : ℕ → ℕ) (ks ls : List ℕ) → total g (ks ++ ls) ≡ total g ks + total g ls
unfolding total
total_append g [] ls = omega arith
total_append g (k ∷ ks) ls = let ih = total_append g ks ls in omega arith
