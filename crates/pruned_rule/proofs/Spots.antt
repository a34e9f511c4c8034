-- The spots of the rows and columns in reach, and the candidates' places in the preference table: one has on it what the other has.
--   spots_length     how many spots there are; spots_places: as many as places
--   spots_in         each is a row and a column in reach; spots_all: and each of these is one; spots_reach: read from the spot
--   spot_row         a spot's row; spot_column: its column; key-on: its key by these
--   total_spots      a sum over the spots is the sum over the places; total_rows: and that over rows and columns
--   kept_spots       how many are within a limit: as many on the spots as at the places
--   nearest_of_all   the least key of all is that of the first least place; choice_listed: so is the least of those within a limit, where that place is
--   parted_all       what is within a limit is kept; parted_few: and is no more than there are
use Prim.Native.Nat.{ℕ, zero, suc, ◌+◌, ◌*◌, ◌-◌, ◌/◌, ◌%◌, ◌≤◌, ◌<◌}
use mathlib.Core.Path.{◌≡◌, refl, sym, ap, ap₂, ◌∙◌, subst}
use mathlib.Core.Logic.{⊎_elim}
use mathlib.Core.Bool.{Bool, true, false, cond}
use mathlib.Core.List.Memᴰ
use mathlib.Core.List.{List, [], ◌∷◌}
use native.Mathlib.Nat.{le_refl, le_trans, eq-or-lt_of_le, le_of_suc-le-suc, le_step, lt-suc_self, not-suc-le-zero}
use native.Mathlib.Omega.{arith}
use lib.Dec.{leb}
use lib.ListN.{length}
use Rattle.base.specs.Tests.{T_true, true_T}
use Rattle.base.specs.Sum.{sum_to, sum_to_ext, sum_to_zero, sum_over}
use Rattle.base.specs.Lists.{list_to, concat_to, length_list_to, length_concat_to}
use Rattle.base.specs.Least.{◌∈◌, least_of, least_of_mem, least_of_le, mem_length}
use Rattle.order.specs.declared.Vector.{Vector}
use Rattle.order.specs.Vectors.{vector_count}
use Rattle.order.specs.Preference.{preferred}
use Rattle.frame.specs.declared.SearchBlock.{SearchBlock}
use Rattle.frame.specs.declared.Region.{Region}
use Rattle.frame.specs.Candidates.{candidate}
use Rattle.search.specs.Exhaustive.{grid_vector}
use Rattle.search.proofs.Counted.{table_grid}
use Rattle.reach.specs.Reach.{Standing, reach, InReach}
use Rattle.reach.specs.Keys.{key_of}
use Rattle.reach.proofs.Candidates.{Bounds, reach_bounds, reach_small, reach_yes, reach_in, reach_count, sum_span}
use Rattle.reach.proofs.Choice.{least_key}
use Rattle.pruned_rule.specs.Sift.{kept, total}
use Rattle.pruned_rule.specs.Spots.{places_of, choice_of, spots, vector_on, key_on, Chosen}
use Rattle.pruned_rule.proofs.Parts.{Parted, empty, stays, goes, parted, parted_kept, total_append}
use Rattle.pruned_rule.proofs.Nested.{kept_count, total_pick}

-- ---- lists by a rule

list_to_all : (g : ℕ → ℕ) (n i : ℕ) → i < n → g i ∈ list_to g n
unfolding list_to
list_to_all g zero i h = absurd (not-suc-le-zero h)
list_to_all g (suc n) i h =
    ⊎_elim (λ (e : i ≡ n). Memᴰ.append_right (list_to g n) (Memᴰ.head (ap g e)))
    (λ (l : i < n). Memᴰ.append_left _ (list_to_all g n i l))
    (eq-or-lt_of_le (le_of_suc-le-suc h))

list_to_in : (g : ℕ → ℕ) (n : ℕ) {t : ℕ} → t ∈ list_to g n → (i : ℕ) × (i < n) × (t ≡ g i)
unfolding list_to
list_to_in g zero m = absurd (Memᴰ.not-nil m)
list_to_in g (suc n) m =
    ⊎_elim (λ l. let (i, h, e) = list_to_in g n l in (i, le_step h, e)) (λ r. (n, lt-suc_self n, Memᴰ.eq_of_singleton r))
    (Memᴰ.append_cases (list_to g n) m)

concat_to_all : (f : ℕ → List ℕ) (n i : ℕ) {t : ℕ} → i < n → t ∈ f i → t ∈ concat_to f n
unfolding concat_to
concat_to_all f zero i h m = absurd (not-suc-le-zero h)
concat_to_all f (suc n) i {t} h m =
    ⊎_elim (λ (e : i ≡ n). Memᴰ.append_right (concat_to f n) (subst (λ (x : ℕ). t ∈ f x) e m))
    (λ (l : i < n). Memᴰ.append_left _ (concat_to_all f n i l m))
    (eq-or-lt_of_le (le_of_suc-le-suc h))

concat_to_in : (f : ℕ → List ℕ) (n : ℕ) {t : ℕ} → t ∈ concat_to f n → (i : ℕ) × (i < n) × (t ∈ f i)
unfolding concat_to
concat_to_in f zero m = absurd (Memᴰ.not-nil m)
concat_to_in f (suc n) m =
    ⊎_elim (λ l. let (i, h, e) = concat_to_in f n l in (i, le_step h, e)) (λ r. (n, lt-suc_self n, r))
    (Memᴰ.append_cases (concat_to f n) m)

-- what is within a limit is kept, and no more than there are
pub parted_all : {v : ℕ → ℕ} {l : ℕ} {ks ys ns : List ℕ} → Parted v l ks ys ns → {t : ℕ} → t ∈ ks → v t ≤ l → t ∈ ys
parted_all empty m h = m
parted_all (stays g r) m h = ⊎_elim (λ q. Memᴰ.head q) (λ n. Memᴰ.tail (parted_all r n h)) (Memᴰ.cases_cons m)
parted_all {v} (goes {k = k} g r) {t} m h =
    ⊎_elim (λ (q : t ≡ k). absurd (omega (arith, ap v q))) (λ n. parted_all r n h) (Memᴰ.cases_cons m)

pub parted_few : {v : ℕ → ℕ} {l : ℕ} {ks ys ns : List ℕ} → Parted v l ks ys ns → length ys ≤ length ks
parted_few empty = le_refl 0
parted_few (stays g r) = omega (arith, parted_few r)
parted_few (goes g r) = le_step (parted_few r)

total_list_to : (h g : ℕ → ℕ) (n : ℕ) → total h (list_to g n) ≡ sum_to (λ i. h (g i)) n
unfolding list_to sum_to total
total_list_to h g zero = refl
total_list_to h g (suc n) = let ih = total_list_to h g n in omega (arith, total_append h (list_to g n) (g n ∷ []))

total_concat_to : (h : ℕ → ℕ) (f : ℕ → List ℕ) (n : ℕ) → total h (concat_to f n) ≡ sum_to (λ i. total h (f i)) n
unfolding concat_to sum_to total
total_concat_to h f zero = refl
total_concat_to h f (suc n) = let ih = total_concat_to h f n in omega (arith, total_append h (concat_to f n) (f n))

-- ---- the spots

pub spots_length : (r : Region) → length (spots r) ≡ r.rows * r.columns
unfolding spots
spots_length r = length_concat_to _ r.columns (λ i. length_list_to _ r.columns) r.rows

pub spots_in : (r : Region) {t : ℕ} → t ∈ spots r → (i : ℕ) × (j : ℕ) × InReach r i j × (t ≡ 64 * i + j)
unfolding spots
spots_in r m =
    let (i, hi, l) = concat_to_in _ r.rows m in
    let (j, hj, e) = list_to_in _ r.columns l in
    (r.top + i, r.left + j, record { top = omega arith; bottom = omega arith; left = omega arith; right = omega arith }, e)

pub spots_all : (r : Region) (i j : ℕ) → InReach r i j → 64 * i + j ∈ spots r
unfolding spots
spots_all r i j h =
    let p : r.top + (i - r.top) ≡ i = omega (arith, h.top) in
    let q : r.left + (j - r.left) ≡ j = omega (arith, h.left) in
    subst (λ (t : ℕ). t ∈ spots r) (ap₂ (λ (x y : ℕ). 64 * x + y) p q)
    (concat_to_all _ r.rows (i - r.top) (omega (arith, h.top, h.bottom))
    (list_to_all _ r.columns (j - r.left) (omega (arith, h.left, h.right))))

-- a spot's row and column
pub spot_row : (i j : ℕ) → j < 64 → (64 * i + j) / 64 ≡ i
spot_row i j h = omega arith

pub spot_column : (i j : ℕ) → j < 64 → (64 * i + j) % 64 ≡ j
spot_column i j h = omega arith

module _ (b : SearchBlock) (s : Standing b) where
  abbrev passes : Vector → Bool
  passes v = candidate b.setting b.w b.y b.x v

  pub spots_places : length (spots (reach b)) ≡ length (places_of b)
  spots_places = spots_length (reach b) ∙ sym (reach_count b s)

  -- a sum over the spots, row by row
  pub total_rows : (F : Vector → ℕ)
      → total (λ t. F (vector_on t)) (spots (reach b))
      ≡ sum_over (reach b).rows (reach b).columns (λ i j. F (grid_vector ((reach b).top + i) ((reach b).left + j)))
  unfolding spots
  total_rows F =
      total_concat_to _ _ (reach b).rows
      ∙ sum_to_ext _ _ (reach b).rows (λ i hi.
      total_list_to _ _ (reach b).columns
      ∙ sum_to_ext _ _ (reach b).columns (λ j hj.
      let h : (reach b).left + j < 64 = omega (arith, (reach_bounds b s).few_columns) in
      ap F (ap₂ grid_vector (spot_row ((reach b).top + i) ((reach b).left + j) h) (spot_column ((reach b).top + i) ((reach b).left + j) h))))

  -- and over the places in the table
  total_places : (F : Vector → ℕ)
      → total (λ k. F (preferred k)) (places_of b)
      ≡ sum_over (reach b).rows (reach b).columns (λ i j. F (grid_vector ((reach b).top + i) ((reach b).left + j)))
  total_places F =
      total_pick _ _ vector_count
      ∙ table_grid (λ v. cond (passes v) (F v) 0)
      ∙ sum_span _ 33 (reach b).top (reach b).rows k.few_rows
      (λ i n. sum_to_zero _ 33 (λ j hj. outside i j (λ p. n p.top p.bottom)))
      ∙ sum_to_ext _ _ (reach b).rows (λ i hi.
      sum_span _ 33 (reach b).left (reach b).columns k.few_columns (λ j n. outside _ j (λ p. n p.left p.right))
      ∙ sum_to_ext _ _ (reach b).columns (λ j hj.
      let p = reach_yes b s ((reach b).top + i) ((reach b).left + j)
      (record { top = omega arith; bottom = omega arith; left = omega arith; right = omega arith }) in
      ap (λ t. cond t (F (grid_vector ((reach b).top + i) ((reach b).left + j))) 0) (T_true (passes _) p)))
    where
      k : Bounds b (reach b)
      k = reach_bounds b s

      outside : (i j : ℕ) → (InReach (reach b) i j → ⊥) → cond {A = ℕ} (passes (grid_vector i j)) (F (grid_vector i j)) 0 ≡ 0
      outside i j n = go (passes (grid_vector i j)) refl
        where
          go : (t : Bool) → passes (grid_vector i j) ≡ t → cond {A = ℕ} t (F (grid_vector i j)) 0 ≡ 0
          go true e = absurd (n (reach_in b s i j (true_T _ e)))
          go false e = refl

  pub total_spots : (F : Vector → ℕ) → total (λ t. F (vector_on t)) (spots (reach b)) ≡ total (λ k. F (preferred k)) (places_of b)
  total_spots F = total_rows F ∙ sym (total_places F)

  -- how many are within a limit
  pub kept_spots : (v : Vector → ℕ) (l : ℕ)
      → length (kept (λ t. v (vector_on t)) l (spots (reach b))) ≡ length (kept (λ k. v (preferred k)) l (places_of b))
  kept_spots v l =
      kept_count _ l (spots (reach b)) ∙ total_spots (λ u. cond (leb (v u) l) 1 0) ∙ sym (kept_count (λ k. v (preferred k)) l (places_of b))

  -- ---- the choice by keys

  pub spots_reach : {t : ℕ} → t ∈ spots (reach b) → InReach (reach b) (t / 64) (t % 64)
  spots_reach {t} m =
      let (i, j, h, e) = spots_in (reach b) m in
      let small : j < 64 = omega (arith, (reach_small b s i j h).1) in
      subst (λ (x : ℕ). InReach (reach b) (x / 64) (x % 64)) (sym e) (rw (spot_row i j small, spot_column i j small) h)

  pub key-on : (cost : Vector → ℕ) (i j : ℕ) → InReach (reach b) i j → key_on cost (64 * i + j) ≡ key_of (cost (grid_vector i j)) i j
  key-on cost i j h =
      let small : j < 64 = omega (arith, (reach_small b s i j h).1) in
      ap₂ (λ x y. key_of (cost (grid_vector x y)) x y) (spot_row i j small) (spot_column i j small)

  -- the least key of all spots
  pub nearest_of_all : (cost : Vector → ℕ) (t : ℕ) → Chosen cost (spots (reach b)) t → vector_on t ≡ choice_of b cost
  nearest_of_all cost t c =
      least_key b s cost (t / 64) (t % 64) (spots_reach c.member)
      (λ i j h. subst (λ (x : ℕ). key_on cost t ≤ x) (key-on cost i j h) (c.least (64 * i + j) (spots_all (reach b) i j h)))

  -- the least key of those within a limit, where the choice of all is within it
  pub choice_listed : (cost v : Vector → ℕ) (l : ℕ) → v (choice_of b cost) ≤ l → (t : ℕ)
      → Chosen cost (kept (λ u. v (vector_on u)) l (spots (reach b))) t → vector_on t ≡ choice_of b cost
  choice_listed cost v l h t c =
      nearest_of_all cost t (record {
        member = inside;
        least = λ u i. le_trans (c.least first (parted_all (parted _ l (spots (reach b))) all.member (rw near h))) (all.least u i);
      })
    where
      inside : t ∈ spots (reach b)
      inside = (parted_kept (parted _ l (spots (reach b))) c.member).0

      first : ℕ
      first = least_of (key_on cost) (spots (reach b))

      all : Chosen cost (spots (reach b)) first
      all = record {
        member = least_of_mem (key_on cost) (spots (reach b)) (mem_length inside);
        least = λ u i. least_of_le (key_on cost) (spots (reach b)) i;
      }

      near : vector_on first ≡ choice_of b cost
      near = nearest_of_all cost first all
