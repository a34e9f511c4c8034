-- Keys stored behind one another, and that there is room for them.
--   added_first, added_yes, added_no   none yet; one more that is within the limit; one that is not, stored and not counted
--   added_as                           the same spots in other words
--   row_yes, row_no                    one spot more of a row; rows_more: one row more; rows_none: one that has none within
--   row_few, rows_few                  there are no more in a part of a row than in the whole, and none more in some rows than in all
--   added_join, added_last             a further row, and all; spots_rows: all rows have all spots
--   key_of_spot                        the key of a spot with distance 0
use Prim.Native.Nat.{ℕ, ◌+◌, ◌*◌, ◌-◌, ◌≤◌, ◌<◌}
use mathlib.Core.Path.{◌≡◌, refl, sym, ap, ap₂, ◌∙◌, subst}
use mathlib.Core.Bool.{Bool, cond}
use mathlib.Core.List.{List, [], ◌∷◌, ◌++◌, map-append, append-nil, append_assoc}
use native.Mathlib.Nat.{le_refl}
use native.Mathlib.Numerals.{add-one}
use native.Mathlib.Omega.{arith}
use borrow.Author.Tests.{le-leb, lt-leb}
use lib.Dec.{leb}
use lib.ListN.{length, take, drop, set, length-append, length-set}
use lib.Seq.{take-set-le, take-suc-set, drop-set-lt, drop-drop}
use Rattle.base.specs.Sum.{sum_to_cut}
use Rattle.base.specs.Lists.{list_to, list_to_more, concat_to, concat_to_more}
use Rattle.base.specs.Tests.{one}
use Rattle.frame.specs.declared.Region.{Region}
use Rattle.reach.specs.Keys.{order_code, key_of}
use Rattle.pruned_rule.specs.Sift.{kept}
use Rattle.pruned_rule.specs.Spots.{spots, key_on}
use Rattle.pruned_rule.proofs.Loops.{kept_append}
use Rattle.pruned_rule.proofs.Spots.{spot_row, spot_column}
use Rattle.pruned_list.specs.Listed.{keys_of}
use Rattle.pruned_sift.specs.Laid.{row_spots, Added}
use Rattle.pruned_sift.proofs.Sifted.{kept_row, kept_lists}

pub added_first : (keys : List ℕ) (at : ℕ) → Added [] keys at keys at
added_first keys at = record { many = omega arith; front = sym (append-nil _); long = refl; behind = refl }

pub added_as : {ts us before after : List ℕ} {at n : ℕ} → ts ≡ us → Added ts before at after n → Added us before at after n
added_as {before = before} {after = after} {at = at} {n = n} e a = subst (λ (l : List ℕ). Added l before at after n) e a

module _ {ts before after : List ℕ} {at n : ℕ} (a : Added ts before at after n) where
  pub added_no : (key : ℕ) → Added ts before at (set after n key) n
  added_no key = record {
    many = a.many;
    front = take-set-le n after n key (le_refl n) ∙ a.front;
    long = length-set after n key ∙ a.long;
    behind = drop-set-lt (n + 1) after n key (omega arith) ∙ a.behind;
  }

  -- and further back
  past : (m : ℕ) → n ≤ m → drop (m + 1) after ≡ drop (m + 1) before
  past m h =
      let e : n + 1 + (m - n) ≡ m + 1 = omega arith in
      rw e at (sym (drop-drop (m - n) (n + 1) after) ∙ ap (drop (m - n)) a.behind ∙ drop-drop (m - n) (n + 1) before)

  pub added_yes : (t key : ℕ) → n < length before → key ≡ key_on (λ v. 0) t → Added (ts ++ (t ∷ [])) before at (set after n key) (n + 1)
  added_yes t key h e = record {
    many = omega (arith, a.many, length-append ts (t ∷ []));
    front =
        ap (λ (k : ℕ). take k (set after n key)) (add-one n)
        ∙ take-suc-set after n key (omega (arith, a.long))
        ∙ ap₂ (λ (l : List ℕ) (k : ℕ). l ++ (k ∷ [])) a.front e
        ∙ append_assoc (take at before) (keys_of (λ v. 0) ts) _
        ∙ ap (◌++◌ (take at before)) (sym (map-append (key_on (λ v. 0)) ts (t ∷ [])));
    long = length-set after n key ∙ a.long;
    behind = drop-set-lt (n + 1 + 1) after n key (omega arith) ∙ past (n + 1) (omega arith);
  }

  pub added_join : {us last : List ℕ} {k : ℕ} → Added us after n last k → Added (ts ++ us) before at last k
  added_join {us} {k = k} b = record {
    many = omega (arith, a.many, b.many, length-append ts us);
    front =
        b.front
        ∙ ap (λ (l : List ℕ). l ++ keys_of (λ v. 0) us) a.front
        ∙ append_assoc (take at before) (keys_of (λ v. 0) ts) _
        ∙ ap (◌++◌ (take at before)) (sym (map-append (key_on (λ v. 0)) ts us));
    long = b.long ∙ a.long;
    behind = b.behind ∙ past k (omega (arith, b.many));
  }

pub added_last : {ts before after : List ℕ} {n : ℕ} → Added ts before 0 after n
    → (n ≡ length ts) × (take n after ≡ keys_of (λ v. 0) ts) × (drop (n + 1) after ≡ drop (n + 1) before)
added_last a = (omega (arith, a.many), a.front, a.behind)

-- ---- one spot more, one row more

kept_yes : (v : ℕ → ℕ) (l t : ℕ) → v t ≤ l → kept v l (t ∷ []) ≡ t ∷ []
unfolding kept
kept_yes v l t h = ap (λ (b : Bool). cond b (t ∷ []) []) (le-leb (v t) l h)

kept_no : (v : ℕ → ℕ) (l t : ℕ) → l < v t → kept v l (t ∷ []) ≡ []
unfolding kept
kept_no v l t h = ap (λ (b : Bool). cond b (t ∷ []) []) (lt-leb (v t) l h)

module _ (v : ℕ → ℕ) (l : ℕ) (g : ℕ → ℕ) (n : ℕ) where
  pub row_yes : v (g n) ≤ l → kept v l (list_to g n) ++ (g n ∷ []) ≡ kept v l (list_to g (n + 1))
  row_yes h = rw (list_to_more, kept_append, kept_yes v l (g n) h)

  pub row_no : l < v (g n) → kept v l (list_to g n) ≡ kept v l (list_to g (n + 1))
  row_no h = rw (list_to_more, kept_append, kept_no v l (g n) h) (sym (append-nil _))

  pub row_few : (m : ℕ) → n ≤ m → length (kept v l (list_to g n)) ≤ length (kept v l (list_to g m))
  row_few m h =
      let e : n + (m - n) ≡ m = omega arith in
      let c = rw e at (sum_to_cut (λ j. one (leb (v (g j)) l)) n (m - n)) in
      omega (arith, kept_row v l g n, kept_row v l g m, c)

-- a list with no member
none : (ts : List ℕ) → length ts ≡ 0 → [] ≡ ts
none [] e = refl
none (t ∷ ts) e = absurd (omega (arith, e))

module _ (v : ℕ → ℕ) (l : ℕ) (f : ℕ → List ℕ) where
  pub rows_more : (n : ℕ) → kept v l (concat_to f n) ++ kept v l (f n) ≡ kept v l (concat_to f (n + 1))
  rows_more n = rw (concat_to_more, kept_append)

  pub rows_none : (n : ℕ) → length (kept v l (f n)) ≡ 0 → kept v l (concat_to f n) ≡ kept v l (concat_to f (n + 1))
  rows_none n e = sym (append-nil _) ∙ ap (◌++◌ (kept v l (concat_to f n))) (none (kept v l (f n)) e) ∙ rows_more n

  pub rows_few : (n m : ℕ) → n < m → length (kept v l (concat_to f n)) + length (kept v l (f n)) ≤ length (kept v l (concat_to f m))
  rows_few n m h =
      let e : n + 1 + (m - (n + 1)) ≡ m = omega arith in
      let c = rw e at (sum_to_cut (λ i. length (kept v l (f i))) (n + 1) (m - (n + 1))) in
      omega (arith, kept_lists v l f (n + 1), kept_lists v l f m, c, ap length (rows_more n), length-append (kept v l (concat_to f n)) (kept v l (f n)))

-- ---- the spots of a row

-- its key
pub key_of_spot : (i j : ℕ) → j < 64 → order_code i j ≡ key_on (λ v. 0) (64 * i + j)
unfolding key_of
key_of_spot i j h = rw (spot_row i j h, spot_column i j h) (omega arith)

pub spots_rows : (r : Region) → concat_to (row_spots r) r.rows ≡ spots r
unfolding spots
spots_rows r = refl
