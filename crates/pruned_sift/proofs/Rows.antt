-- The least number of each row, and the least key by way of them.
--   stored_more                              one more value stored
--   leasts_bound                             no number of a row is less than its least; zeros_bound: nor than 0
--   code_at                                  what a row and a column add to a key; code_under: it is below 2¹⁸
--   Passed                                   a key is the least of that it began with and those of the first i rows
--   passed_first, passed_more, passed_last   no row, one more, and all
--   lowered_keys                             the keys of a row; lowered_over: a row whose least is above the least of all adds nothing
--   bottom_some                              a key that is no more than the one begun with
use Prim.Native.Nat.{ℕ, ◌+◌, ◌*◌, ◌-◌, ◌≤◌, ◌<◌}
use mathlib.Core.Path.{◌≡◌, refl, sym, ap, ap₂, ◌∙◌, subst}
use mathlib.Core.Logic.{◌⊎◌, inl, inr, ⊎_elim}
use mathlib.Core.List.{List}
use native.Mathlib.Nat.{le_refl, le_trans}
use native.Mathlib.Decide.{dec_lt, ℕ_discrete}
use native.Mathlib.Omega.{arith}
use lib.ListN.{length, get_or, set, replicate, get_or-replicate}
use lib.Seq.{get_or-set_same, get_or-set_other}
use Rattle.base.specs.Lists.{list_to, get_d_list_to}
use Rattle.frame.specs.declared.Region.{Region}
use Rattle.reach.specs.Reach.{InReach}
use Rattle.reach.specs.Keys.{key_of, order_code, code_of}
use Rattle.reach.proofs.Keys.{code_parts, code_small}
use Rattle.full.specs.Rows.{least_from, Lowered, LeastKey}
use Rattle.full.proofs.Reached.{lowered_row}
use Rattle.full.proofs.Keys.{least_low, least_least, least_some}
use Rattle.pruned_sift.specs.Laid.{Laid, RowLeasts, LowerBounds, key_in}

pub stored_more : (f : ℕ → ℕ) (l : List ℕ) (i x : ℕ) → i < length l → ((k : ℕ) → k < i → get_or l k 0 ≡ f k) → x ≡ f i
    → (k : ℕ) → k < i + 1 → get_or (set l i x) k 0 ≡ f k
stored_more f l i x h before e k b = go (ℕ_discrete k i)
  where
    go : Dec (k ≡ i) → get_or (set l i x) k 0 ≡ f k
    go (yes q) = rw q (get_or-set_same l i x 0 h ∙ e)
    go (no n) = get_or-set_other l i k x 0 n ∙ before k (omega arith)

-- what a row and a column add to a key is their place in the order
module _ (codes : List ℕ) (down i j : ℕ) (columns : codes ≡ list_to (code_of 1) 33) (row : down ≡ code_of 64 i) (h : j < 33) where
  pub code_at : down + get_or codes j 0 ≡ order_code i j
  code_at = ap₂ ◌+◌ row (ap (λ (k : List ℕ). get_or k j 0) columns ∙ get_d_list_to (code_of 1) 33 j 0 h) ∙ code_parts i j

  pub code_under : i < 33 → down + get_or codes j 0 < 262144
  code_under l = rw code_at (code_small i j l h)

-- ---- rows passed

pub record Passed (K : ℕ → ℕ → ℕ) (r : Region) (first i key : ℕ) : Type 0 where
  pub low : key ≤ first
  pub least : (k j : ℕ) → InReach r k j → k < r.top + i → key ≤ K k j
  pub some : (key ≡ first) ⊎ ((k : ℕ) × (j : ℕ) × InReach r k j × (key ≡ K k j))

module _ (K : ℕ → ℕ → ℕ) (r : Region) (first : ℕ) where
  pub passed_first : Passed K r first 0 first
  passed_first = record { low = le_refl first; least = λ k j h l. absurd (omega (arith, h.top)); some = inl refl }

  pub passed_more : (i best key : ℕ) → Lowered K r (r.top + i) best key → Passed K r first i best → Passed K r first (i + 1) key
  passed_more i best key l p = record {
    low = le_trans l.low p.low;
    least = λ k j h b. go k j h b (dec_lt k (r.top + i));
    some =
        ⊎_elim (λ (e : key ≡ best). rw e p.some)
        (λ (s : (j : ℕ) × InReach r (r.top + i) j × (key ≡ K (r.top + i) j)). inr (r.top + i, s.0, s.1, s.2)) l.some;
  }
    where
      go : (k j : ℕ) → InReach r k j → k < r.top + (i + 1) → Dec (k < r.top + i) → key ≤ K k j
      go k j h b (yes m) = le_trans l.low (p.least k j h m)
      go k j h b (no m) =
          let q : k ≡ r.top + i = omega arith in
          subst (λ (x : ℕ). InReach r x j → key ≤ K x j) (sym q) (l.least j) h

  pub passed_last : (key k j : ℕ) → InReach r k j → K k j ≤ first → Passed K r first r.rows key → LeastKey K r key
  passed_last key k j h low p = record {
    some =
        ⊎_elim (λ (e : key ≡ first). (k, j, h, omega (arith, p.least k j h h.bottom)))
        (λ (s : (k : ℕ) × (j : ℕ) × InReach r k j × (key ≡ K k j)). s) p.some;
    least = λ i j h. p.least i j h h.bottom;
  }

-- the keys of a row of the region
pub lowered_keys : (numbers : List ℕ) (pitch : ℕ) (r : Region) (i best key : ℕ) → i < r.rows
    → key ≡ least_from best (λ j. key_of (get_or numbers (pitch * i + (j - r.left)) 0) (r.top + i) j) r.left r.columns
    → Lowered (key_in numbers pitch r) r (r.top + i) best key
lowered_keys numbers pitch r i best key h is =
    let e : r.top + i - r.top ≡ i = omega arith in
    let same = ap (λ (k : ℕ). least_from best (λ j. key_of (get_or numbers (pitch * k + (j - r.left)) 0) (r.top + i) j) r.left r.columns) (sym e) in
    rw (is ∙ same) (lowered_row (key_in numbers pitch r) r (r.top + i) best (omega arith) (omega arith))

-- ---- the least of each row

-- the least of some numbers, none above what it began with, is one of them
least_one : (best : ℕ) (g : ℕ → ℕ) (from n : ℕ) → 0 < n → ((k : ℕ) → from ≤ k → k < from + n → g k ≤ best)
    → (j : ℕ) × (from ≤ j) × (j < from + n) × (least_from best g from n ≡ g j)
least_one best g from n some small =
    ⊎_elim
    (λ (e : least_from best g from n ≡ best).
    (from, le_refl from, omega arith, omega (arith, e, least_least best g from n from (le_refl from) (omega arith), small from (le_refl from) (omega arith))))
    (λ (s : (j : ℕ) × (from ≤ j) × (j < from + n) × (least_from best g from n ≡ g j)). s) (least_some best g from n)

module _ (numbers : List ℕ) (pitch : ℕ) (r : Region) (least : List ℕ) where
  pub leasts_bound : RowLeasts numbers pitch r least → LowerBounds numbers pitch r least
  leasts_bound l i j hi hj =
      let from = pitch * i in
      omega (arith, l i hi, least_least 4294967295 (λ k. get_or numbers k 0) from r.columns (from + j) (omega arith) (omega arith))

  pub lowered_over : (i best bottom : ℕ) → i < r.rows → LowerBounds numbers pitch r least → best ≤ bottom * 262144 + 262143 → bottom < get_or least i 0
      → Lowered (key_in numbers pitch r) r (r.top + i) best best
  unfolding key_of
  lowered_over i best bottom hi below low over = record {
    low = le_refl best;
    least = λ j h.
        let e : r.top + i - r.top ≡ i = omega arith in
        rw e (omega (arith, below i (j - r.left) hi (omega (arith, h.left, h.right))));
    some = inl refl;
  }

  pub bottom_some : Laid numbers pitch r → ((k : ℕ) → get_or numbers k 0 ≤ 4294967295) → RowLeasts numbers pitch r least → (bottom : ℕ)
      → bottom ≡ least_from 4294967295 (λ k. get_or least k 0) 0 r.rows
      → (k : ℕ) × (j : ℕ) × InReach r k j × (key_in numbers pitch r k j ≤ bottom * 262144 + 262143)
  unfolding key_of
  bottom_some d small l bottom is =
      let rows = least_one 4294967295 (λ k. get_or least k 0) 0 r.rows (omega (arith, d.around.above, d.around.below))
      (λ k a b. omega (arith, l k (omega arith), least_low 4294967295 (λ k. get_or numbers k 0) (pitch * k) r.columns)) in
      let i = rows.0 in
      let hi : i < r.rows = omega (arith, rows.2) in
      let columns = least_one 4294967295 (λ k. get_or numbers k 0) (pitch * i) r.columns (omega (arith, d.around.before, d.around.behind)) (λ k a b. small k) in
      let j = columns.0 - pitch * i in
      let hj : j < r.columns = omega (arith, columns.1, columns.2) in
      let e : r.top + i - r.top ≡ i = omega arith in
      let f : r.left + j - r.left ≡ j = omega arith in
      let g : pitch * i + j ≡ columns.0 = omega (arith, columns.1) in (
        r.top + i,
        r.left + j,
        record { top = omega arith; bottom = omega arith; left = omega arith; right = omega arith },
        rw (e, f, g)
            (omega (
              arith,
              is,
              rows.3,
              l i hi,
              columns.3,
              code_small (r.top + i) (r.left + j) (omega (arith, d.around.few_rows)) (omega (arith, d.around.few_columns)),
            )),
      )

-- 0 is no more than any
pub zeros_bound : {numbers : List ℕ} {pitch : ℕ} {r : Region} → Laid numbers pitch r → LowerBounds numbers pitch r (replicate 33 0)
zeros_bound d i j hi hj = omega (arith, get_or-replicate {A = ℕ} 33 i 0 0 (omega (arith, d.around.few_rows)))
