-- The rows of window 16 from the middle on: after t rows on either side the least key is that of the rows passed.
--   Led                            a key is one of those in reach, and the least of the rows nearer than t to the middle
--   led_first, led_more, led_last  the middle row, a row on either side, and all rows
-- And its columns from the first in reach on.
--   Passed                                  a key is one of those in reach, and the least of the columns before j
--   passed_first, passed_more, passed_last  no column, one more, and all
use Prim.Native.Nat.{ℕ, ◌+◌, ◌-◌, ◌≤◌, ◌<◌}
use mathlib.Core.Path.{◌≡◌, refl, sym, ◌∙◌, subst}
use mathlib.Core.Logic.{⊎_elim, inl, inr}
use native.Mathlib.Nat.{le_trans}
use native.Mathlib.Omega.{arith}
use native.Mathlib.Decide.{dec_lt, ℕ_discrete}
use Rattle.frame.specs.declared.Region.{Region}
use Rattle.signed.specs.Values.{abs_diff}
use Rattle.reach.specs.Reach.{InReach}
use Rattle.full.specs.Rows.{least_from, Around, Lowered, LeastKey}
use Rattle.full.proofs.Keys.{least_low, least_least, least_some}

pub record Led (K : ℕ → ℕ → ℕ) (r : Region) (t key : ℕ) : Type 0 where
  pub some : (i : ℕ) × (j : ℕ) × InReach r i j × (key ≡ K i j)
  pub least : (i j : ℕ) → InReach r i j → abs_diff i 16 < t → key ≤ K i j

module _ (K : ℕ → ℕ → ℕ) (r : Region) where
  -- a row out of reach adds nothing
  pub lowered_none : (i best : ℕ) → ((j : ℕ) → InReach r i j → ⊥) → Lowered K r i best best
  lowered_none i best out = record { low = omega arith; least = λ j h. absurd (out j h); some = inl refl }

  -- a row in reach
  pub lowered_row : (i best : ℕ) → r.top ≤ i → i < r.top + r.rows → Lowered K r i best (least_from best (K i) r.left r.columns)
  lowered_row i best a b = record {
    low = least_low best (K i) r.left r.columns;
    least = λ j h. least_least best (K i) r.left r.columns j h.left h.right;
    some =
        ⊎_elim (λ e. inl e) (λ (s : (j : ℕ) × (r.left ≤ j) × (j < r.left + r.columns) × (least_from best (K i) r.left r.columns ≡ K i j)).
        inr (s.0, record { top = a; bottom = b; left = s.1; right = s.2 }, s.3)) (least_some best (K i) r.left r.columns);
  }

  -- what is lowered is still one of those in reach
  some_lowered : (i best key : ℕ) → Lowered K r i best key → (i : ℕ) × (j : ℕ) × InReach r i j × (best ≡ K i j) → (i : ℕ) × (j : ℕ) × InReach r i j × (key ≡ K i j)
  some_lowered i best key l s =
      ⊎_elim (λ (e : key ≡ best). (s.0, s.1, s.2, e ∙ s.3)) (λ (h : (j : ℕ) × InReach r i j × (key ≡ K i j)). (i, h.0, h.1, h.2)) l.some

  pub led_first : Around r → (first key : ℕ) → first ≡ K 16 16 → Lowered K r 16 first key → Led K r 1 key
  led_first a first key e l = record {
    some =
        some_lowered 16 first key l
        (16, 16, record { top = a.above; bottom = a.below; left = a.before; right = a.behind }, e);
    least = λ i j h near. let q : i ≡ 16 = omega arith in subst (λ (k : ℕ). InReach r k j → key ≤ K k j) (sym q) (l.least j) h;
  }

  pub led_more : (t best above below : ℕ) → t ≤ 16 → Led K r t best → Lowered K r (16 - t) best above → Lowered K r (16 + t) above below → Led K r (t + 1) below
  led_more t best above below small d a b = record {
    some = some_lowered (16 + t) above below b (some_lowered (16 - t) best above a d.some);
    least = λ i j h near. go i j h near (dec_lt (abs_diff i 16) t) (ℕ_discrete i (16 - t));
  }
    where
      go : (i j : ℕ) → InReach r i j → abs_diff i 16 < t + 1 → Dec (abs_diff i 16 < t) → Dec (i ≡ 16 - t) → below ≤ K i j
      go i j h near (yes n) c = omega (arith, b.low, a.low, d.least i j h n)
      go i j h near (no n) (yes q) =
          omega (arith, b.low, subst (λ (k : ℕ). InReach r k j → above ≤ K k j) (sym q) (a.least j) h)
      go i j h near (no n) (no m) =
          let q : i ≡ 16 + t = omega arith in
          subst (λ (k : ℕ). InReach r k j → below ≤ K k j) (sym q) (b.least j) h

  pub led_last : Around r → (key : ℕ) → Led K r 17 key → LeastKey K r key
  led_last a key d = record { some = d.some; least = λ i j h. d.least i j h (omega (arith, h.bottom, a.few_rows)) }

-- ---- columns

pub record Passed (K : ℕ → ℕ → ℕ) (r : Region) (j key : ℕ) : Type 0 where
  pub some : (i : ℕ) × (j : ℕ) × InReach r i j × (key ≡ K i j)
  pub least : (i k : ℕ) → InReach r i k → k < j → key ≤ K i k

module _ (K : ℕ → ℕ → ℕ) (r : Region) where
  pub passed_first : Around r → (first : ℕ) → first ≡ K 16 16 → Passed K r r.left first
  passed_first a first e = record {
    some = (16, 16, record { top = a.above; bottom = a.below; left = a.before; right = a.behind }, e);
    least = λ i k h l. absurd (omega (arith, h.left));
  }

  pub passed_more : (j best key : ℕ) → r.left ≤ j → j < r.left + r.columns → key ≡ least_from best (λ i. K i j) r.top r.rows → Passed K r j best
      → Passed K r (j + 1) key
  passed_more j best key a b is d = record {
    some =
        ⊎_elim (λ (e : least ≡ best). (d.some.0, d.some.1, d.some.2, is ∙ e ∙ d.some.3))
        (λ (s : (i : ℕ) × (r.top ≤ i) × (i < r.top + r.rows) × (least ≡ K i j)).
        (s.0, j, record { top = s.1; bottom = s.2; left = a; right = b }, is ∙ s.3)) (least_some best (λ i. K i j) r.top r.rows);
    least = λ i k h l. rw is (go i k h l (dec_lt k j));
  }
    where
      least : ℕ
      least = least_from best (λ i. K i j) r.top r.rows

      go : (i k : ℕ) → InReach r i k → k < j + 1 → Dec (k < j) → least ≤ K i k
      go i k h l (yes m) = le_trans (least_low best (λ i. K i j) r.top r.rows) (d.least i k h m)
      go i k h l (no m) =
          let q : k ≡ j = omega arith in
          rw q (least_least best (λ i. K i j) r.top r.rows i h.top h.bottom)

  pub passed_last : (key : ℕ) → Passed K r (r.left + r.columns) key → LeastKey K r key
  passed_last key d = record { some = d.some; least = λ i j h. d.least i j h h.right }

-- equal keys in reach
pub least_same : (K L : ℕ → ℕ → ℕ) (r : Region) (key : ℕ) → ((i j : ℕ) → InReach r i j → K i j ≡ L i j) → LeastKey K r key → LeastKey L r key
least_same K L r key e d = record {
  some = let s = d.some in (s.0, s.1, s.2, s.3 ∙ e s.0 s.1 s.2);
  least = λ i j h. let q = e i j h in omega (arith, d.least i j h);
}
