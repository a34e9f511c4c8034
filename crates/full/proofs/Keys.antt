-- Keys along a row or column: the least of them, and that a distortion measured as far as the least so far goes is enough to find it.
--   least_first, least_more   before the first place, and one more; least_next: the same with the least at hand
--   least_low                 no more than what it began with
--   least_cut                 n places, and m more behind them, each by itself
--   least_least, least_some   no more than any; and one of them, or what it began with
--   code_read                 what a row or column adds to a key
--   least_enough              the sum as far as the ceiling goes wins or loses as the distortion does
use Prim.Native.Nat.{ℕ, zero, suc, ◌+◌, ◌*◌, ◌/◌, ◌≤◌, ◌<◌, min}
use mathlib.Core.Path.{◌≡◌, refl, sym, ap, ◌∙◌}
use mathlib.Core.Logic.{◌⊎◌, inl, inr, ⊎_elim}
use native.Mathlib.Nat.{add-zero, add-suc, eq-or-lt_of_le}
use native.Mathlib.Numerals.{add-one}
use native.Mathlib.Omega.{arith}
use native.Mathlib.Decide.{dec_le}
use mathlib.Core.List.{List}
use lib.ListN.{get_or}
use Rattle.base.specs.Lists.{list_to, get_d_list_to}
use Rattle.reach.specs.Keys.{code_of}
use Rattle.distortion.specs.Blocks.{UpTo}
use Rattle.full.specs.Rows.{least_from}

module _ (best : ℕ) (g : ℕ → ℕ) (from : ℕ) where
  pub least_first : best ≡ least_from best g from 0
  unfolding least_from
  least_first = refl

  pub least_more : (n : ℕ) → least_from best g from (n + 1) ≡ min (least_from best g from n) (g (from + n))
  unfolding least_from
  least_more n = rw add-one

  pub least_next : (n i least key : ℕ) → least ≡ least_from best g from n → i ≡ from + n → key ≡ min least (g i) → key ≡ least_from best g from (n + 1)
  least_next n i least key e at is = is ∙ rw (e, at) (sym (least_more n))

  pub least_low : (n : ℕ) → least_from best g from n ≤ best
  unfolding least_from
  least_low zero = omega arith
  least_low (suc n) = let l = least_low n in omega arith

  pub least_cut : (n m : ℕ) → least_from best g from (n + m) ≡ min (least_from best g from n) (least_from best g (from + n) m)
  unfolding least_from
  least_cut n zero = rw add-zero (omega (arith, least_low n))
  least_cut n (suc m) =
      let e : from + (n + m) ≡ from + n + m = omega arith in
      rw (add-suc, e) (omega (arith, least_cut n m))

  pub least_least : (n j : ℕ) → from ≤ j → j < from + n → least_from best g from n ≤ g j
  unfolding least_from
  least_least zero j h l = absurd (omega arith)
  least_least (suc n) j h l =
      ⊎_elim (λ (e : j ≡ from + n). rw e (omega arith)) (λ (m : j < from + n). let r = least_least n j h m in omega arith)
      (eq-or-lt_of_le (let k : j ≤ from + n = omega arith in k))

  pub least_some : (n : ℕ) → (least_from best g from n ≡ best) ⊎ ((j : ℕ) × (from ≤ j) × (j < from + n) × (least_from best g from n ≡ g j))
  unfolding least_from
  least_some zero = inl refl
  least_some (suc n) = go (least_some n) (dec_le (least_from best g from n) (g (from + n)))
    where
      go : (least_from best g from n ≡ best) ⊎ ((j : ℕ) × (from ≤ j) × (j < from + n) × (least_from best g from n ≡ g j))
          → Dec (least_from best g from n ≤ g (from + n))
          → (min (least_from best g from n) (g (from + n)) ≡ best)
          ⊎ ((j : ℕ) × (from ≤ j) × (j < from + suc n) × (min (least_from best g from n) (g (from + n)) ≡ g j))
      go (inl e) (yes h) = inl (omega arith)
      go (inr (j, a, b, e)) (yes h) = inr (j, a, omega arith, omega arith)
      go s (no h) = inr (from + n, omega arith, omega arith, omega arith)

-- what a row or column adds to a key, as it is read
pub code_read : (codes : List ℕ) (weight i : ℕ) → codes ≡ list_to (code_of weight) 33 → i < 33 → get_or codes i 0 ≡ code_of weight i
code_read codes weight i e h = ap (λ (k : List ℕ). get_or k i 0) e ∙ get_d_list_to (code_of weight) 33 i 0 h

pub least_enough : (least all d code : ℕ) → code < 262144 → UpTo (least / 262144) all d → min least (d * 262144 + code) ≡ min least (all * 262144 + code)
least_enough least all d code h u = go (dec_le d (least / 262144))
  where
    go : Dec (d ≤ least / 262144) → min least (d * 262144 + code) ≡ min least (all * 262144 + code)
    go (yes l) = ap (λ (s : ℕ). min least (s * 262144 + code)) (u.within l)
    go (no l) = let o = u.over (omega arith) in omega arith
