-- Numbers in rows, one row behind the other, and a list filled with them as a loop over rows leaves it.
--   in_rows   p rows of k numbers each, as f says
--   Rowed    p rows of k numbers each are filled; behind them is what was there
use Rattle.std.specs.Prelude.{ℕ, zero, suc, ◌+◌, ◌*◌, ◌≤◌, ◌<◌, ◌≡◌, refl, List, ◌++◌, length, get_or, drop}
use Rattle.std.proofs.Common.{sym, ap, ◌∙◌, append-nil, append_assoc, suc-mul, arith, drop_of_length-le}
use Rattle.std.proofs.Math.Nat.{zero-mul}
use Rattle.std.proofs.Math.ListN.{get_or-append}
use Rattle.base.specs.Index.{row_next, row_fits}
use Rattle.base.specs.Lists.{list_to, concat_to, fill_to, length_list_to, list_to_ext, get_d_list_to}
use Rattle.base.specs.Lists.{concat_to_more, concat_to_ext, length_concat_to, get_d_concat_to, length_fill, fill_join, front_behind}
use Rattle.base.specs.Fronts.{drop_front}

abbrev pub in_rows : (ℕ → ℕ → ℕ) → ℕ → ℕ → List ℕ
in_rows f p k = concat_to (λ i. list_to (f i) k) p

pub length_in_rows : (f : ℕ → ℕ → ℕ) (p k : ℕ) → length (in_rows f p k) ≡ p * k
length_in_rows f p k = length_concat_to (λ i. list_to (f i) k) k (λ i. length_list_to _ k) p

pub in_rows_ext : (f g : ℕ → ℕ → ℕ) (p k : ℕ) → ((i j : ℕ) → i < p → j < k → f i j ≡ g i j) → in_rows f p k ≡ in_rows g p k
in_rows_ext f g p k e = concat_to_ext _ _ p (λ i hi. list_to_ext (f i) (g i) k (λ j hj. e i j hi hj))

-- place i * k + j holds entry j of row i, whatever lies behind the rows
pub in_rows_at : (f : ℕ → ℕ → ℕ) (k p i j : ℕ) (d : List ℕ) → i < p → j < k → get_or (in_rows f p k ++ d) (i * k + j) 0 ≡ f i j
in_rows_at f k p i j d h l =
    let short : i * k + j < length (in_rows f p k) = rw (length_in_rows f p k) (omega (arith, row_fits i p k h)) in
    get_or-append (in_rows f p k) d 0 (i * k + j) short
    ∙ get_d_concat_to _ k (λ i. length_list_to _ k) p i j 0 h l
    ∙ get_d_list_to _ k j 0 l

-- any list that is long enough begins with rows
pub in_rows_self : (l : List ℕ) (p k : ℕ) → p * k ≤ length l → l ≡ in_rows (λ i j. get_or l (i * k + j) 0) p k ++ drop (p * k) l
unfolding concat_to
in_rows_self l zero k h = rw zero-mul
in_rows_self l (suc p) k h =
    let more = suc-mul p k in
    in_rows_self l p k (omega arith)
    ∙ rw more (ap (◌++◌ (in_rows (λ i j. get_or l (i * k + j) 0) p k)) (drop_front l (p * k) k 0 (omega arith))
    ∙ sym (append_assoc (in_rows (λ i j. get_or l (i * k + j) 0) p k) (list_to (λ i. get_or l (p * k + i) 0) k) (drop (p * k + k) l)))

pub record Rowed (f : ℕ → ℕ → ℕ) (k : ℕ) (before list : List ℕ) (p : ℕ) : Type 0 where
  pub long : length list ≡ length before
  pub filled : list ≡ in_rows f p k ++ drop (p * k) before

module _ (f : ℕ → ℕ → ℕ) (k : ℕ) (before : List ℕ) where
  pub rowed_first : Rowed f k before before 0
  unfolding concat_to
  rowed_first = record { long = refl; filled = rw zero-mul }

  pub rowed_more : (list next : List ℕ) (p from : ℕ) → Rowed f k before list p → from ≡ p * k → from + k ≤ length list → next ≡ fill_to list from (f p) k
      → Rowed f k before next (p + 1)
  rowed_more list next p from g e room h = record {
    long = rw h (length_fill list from (f p) k room ∙ g.long);
    filled =
        rw (h, e)
        (ap (λ (t : List ℕ). fill_to t (p * k) (f p) k) g.filled
        ∙ rw (fill_join (in_rows f p k) before (p * k) k (f p) (length_in_rows f p k), concat_to_more _ p, row_next p k));
  }

  -- what is not filled yet is as it was
  pub rowed_behind : (list : List ℕ) (p i : ℕ) → Rowed f k before list p → p * k ≤ i → get_or list i 0 ≡ get_or before i 0
  rowed_behind list p i g h = rw g.filled (front_behind (in_rows f p k) before (p * k) i 0 (length_in_rows f p k) h)

  -- the whole list
  pub rowed_all : (list : List ℕ) (p : ℕ) → Rowed f k before list p → length before ≤ p * k → list ≡ in_rows f p k
  rowed_all list p g h = g.filled ∙ rw (drop_of_length-le before {i = p * k} h) (append-nil _)
