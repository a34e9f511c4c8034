-- Keys of spots, and what the functions on an array of keys do where its front holds those of some spots.
--   OnGrid           each spot is a row and a column of window 16; spots_grid: those in reach are
--   distance_on      the distance in a spot's key; spot_on: the spot in it; renewed_on: the key with another distance
--   every_last       the keys of all spots with distance 0, stored row by row (code_in); keys_at: the key at a place
--   listed_many      as many spots as keys; front_listed: keys that were stored in front of an array
--   nearest_chosen   the least key is that of a chosen spot; nearest_spot: which it holds, with its distance
--   within_listed    those that stay are the keys of the spots within the limit
--   renewed_listed   each key with a new distance: the keys of the same spots by another cost
--   chosen_measured  the least of such keys holds a spot that is chosen by that cost, and the cost
use Prim.Native.Nat.{ℕ, zero, suc, ◌+◌, ◌*◌, ◌/◌, ◌%◌, ◌≤◌, ◌<◌}
use mathlib.Core.Path.{◌≡◌, refl, sym, ap, ap₂, ◌∙◌}
use mathlib.Core.Bool.{Bool, true, false, cond}
use mathlib.Core.List.Memᴰ
use mathlib.Core.List.{List, [], ◌∷◌, ◌++◌, map-append}
use native.Mathlib.Nat.{not-suc-le-zero, le_of_suc-le-suc}
use native.Mathlib.Omega.{arith}
use lib.Dec.{leb, ltb}
use lib.ListN.{length, get_or, take, drop, length-map}
use lib.Seq.{length-take-le, take_at, get_or-take, ext_get_or}
use Rattle.base.specs.Lists.{list_to, concat_to, fill_to, list_to_ext, concat_to_ext, length_list_to, get_d_list_to, fill_zero}
use Rattle.base.specs.Rows.{in_rows, Rowed}
use Rattle.base.specs.Least.{◌∈◌, get_d_mem, better, least_of, least_from, least_of_mem, least_of_le}
use Rattle.order.specs.declared.Vector.{Vector}
use Rattle.frame.specs.declared.SearchBlock.{SearchBlock}
use Rattle.frame.specs.declared.Region.{Region}
use Rattle.reach.specs.Reach.{Standing, reach}
use Rattle.reach.specs.Keys.{order_code, key_of}
use Rattle.reach.proofs.Candidates.{reach_small}
use Rattle.reach.proofs.Keys.{key_parts, key_spot, key_anew}
use Rattle.pruned_rule.specs.Sift.{kept}
use Rattle.pruned_rule.specs.Spots.{spots, vector_on, key_on, Chosen}
use Rattle.pruned_rule.proofs.Spots.{spots_reach, spot_row, spot_column}
use Rattle.pruned_list.specs.Listed.{keys_of, distance_of, spot_of, renewed, nearest_key, KeptWithin, measured_key, least_measured}

abbrev pub OnGrid : List ℕ → Type 0
OnGrid ts = (t : ℕ) → t ∈ ts → (t / 64 < 33) × (t % 64 < 33)

pub spots_grid : (b : SearchBlock) → Standing b → OnGrid (spots (reach b))
spots_grid b s t m = reach_small b s (t / 64) (t % 64) (spots_reach b s m)

-- ---- one key

module _ (cost : Vector → ℕ) (t : ℕ) (on : (t / 64 < 33) × (t % 64 < 33)) where
  pub distance_on : distance_of (key_on cost t) ≡ cost (vector_on t)
  distance_on = (key_parts (t / 64) (t % 64) on.0 on.1 (cost (vector_on t))).0

  pub spot_on : spot_of (key_on cost t) ≡ t
  spot_on = key_spot (t / 64) (t % 64) on.0 on.1 (cost (vector_on t)) ∙ omega arith

  pub renewed_on : (d : ℕ) → renewed (key_on cost t) d ≡ key_of d (t / 64) (t % 64)
  renewed_on d = key_anew (t / 64) (t % 64) on.0 on.1 (cost (vector_on t)) d

-- ---- all keys

keys_list_to : (cost : Vector → ℕ) (g : ℕ → ℕ) (n : ℕ) → keys_of cost (list_to g n) ≡ list_to (λ i. key_on cost (g i)) n
unfolding list_to
keys_list_to cost g zero = refl
keys_list_to cost g (suc n) =
    map-append (key_on cost) (list_to g n) (g n ∷ []) ∙ ap (λ l. l ++ (key_on cost (g n) ∷ [])) (keys_list_to cost g n)

keys_concat_to : (cost : Vector → ℕ) (f : ℕ → List ℕ) (n : ℕ) → keys_of cost (concat_to f n) ≡ concat_to (λ i. keys_of cost (f i)) n
unfolding concat_to
keys_concat_to cost f zero = refl
keys_concat_to cost f (suc n) =
    map-append (key_on cost) (concat_to f n) (f n) ∙ ap (λ l. l ++ keys_of cost (f n)) (keys_concat_to cost f n)

zero_key : (i j : ℕ) → key_of 0 i j ≡ order_code i j
unfolding key_of
zero_key i j = omega arith

-- the order of row i, column j of a region
abbrev pub code_in : Region → ℕ → ℕ → ℕ
code_in r i j = order_code (r.top + i) (r.left + j)

every_keys : (r : Region) → r.left + r.columns ≤ 33 → keys_of (λ v. 0) (spots r) ≡ in_rows (code_in r) r.rows r.columns
unfolding spots
every_keys r h =
    keys_concat_to (λ v. 0) _ r.rows
    ∙ concat_to_ext _ _ r.rows (λ i hi.
    keys_list_to (λ v. 0) _ r.columns
    ∙ list_to_ext _ _ r.columns (λ j hj.
    let small : r.left + j < 64 = omega arith in
    ap₂ (key_of 0) (spot_row (r.top + i) (r.left + j) small) (spot_column (r.top + i) (r.left + j) small)
    ∙ zero_key (r.top + i) (r.left + j)))

-- all rows are stored
pub every_last : (r : Region) (before list : List ℕ) (i : ℕ) → r.left + r.columns ≤ 33 → i ≡ r.rows
    → Rowed (code_in r) r.columns before list i → list ≡ keys_of (λ v. 0) (spots r) ++ drop (r.rows * r.columns) before
every_last r before list i h e g = rw (every_keys r h) (rw e at g.filled)

-- the key at place i is that of the spot at place i
pub keys_at : (cost : Vector → ℕ) (ts : List ℕ) (i : ℕ) → i < length ts → get_or (keys_of cost ts) i 0 ≡ key_on cost (get_or ts i 0)
keys_at cost [] i h = absurd (not-suc-le-zero h)
keys_at cost (t ∷ ts) zero h = refl
keys_at cost (t ∷ ts) (suc i) h = keys_at cost ts i (le_of_suc-le-suc h)

-- ---- an array whose front holds the keys of some spots

pub listed_many : (cost : Vector → ℕ) (ts keys : List ℕ) (count : ℕ) → count ≤ length keys → take count keys ≡ keys_of cost ts → length ts ≡ count
listed_many cost ts keys count h e = sym (length-map ts (key_on cost)) ∙ ap length (sym e) ∙ length-take-le count keys h

pub front_listed : (cost : Vector → ℕ) (ts behind after : List ℕ) (n : ℕ) → n ≡ length ts → after ≡ keys_of cost ts ++ behind → take n after ≡ keys_of cost ts
front_listed cost ts behind after n e h = rw h (take_at (keys_of cost ts) behind n (length-map ts (key_on cost) ∙ sym e))

least_keys_from : (cost : Vector → ℕ) (t : ℕ) (ts : List ℕ) → least_from (λ k. k) (key_on cost t) (keys_of cost ts) ≡ key_on cost (least_from (key_on cost) t ts)
unfolding least_from
least_keys_from cost t [] = refl
least_keys_from cost t (u ∷ ts) =
    let e = least_keys_from cost (better (key_on cost) t u) ts in
    ap (λ (k : ℕ). least_from (λ k. k) k (keys_of cost ts)) (cond_key (ltb (key_on cost u) (key_on cost t))) ∙ e
  where
    cond_key : (a : Bool) → cond a (key_on cost u) (key_on cost t) ≡ key_on cost (cond a u t)
    cond_key true = refl
    cond_key false = refl

least_keys : (cost : Vector → ℕ) (ts : List ℕ) → 0 < length ts → least_of (λ k. k) (keys_of cost ts) ≡ key_on cost (least_of (key_on cost) ts)
unfolding least_of
least_keys cost [] h = absurd (omega arith)
least_keys cost (t ∷ ts) h = least_keys_from cost t ts

-- the least key is that of a chosen spot
least_chosen : (cost : Vector → ℕ) (ts : List ℕ) → 0 < length ts → (r : ℕ) → r ≡ least_of (λ k. k) (keys_of cost ts)
    → (t : ℕ) × Chosen cost ts t × (r ≡ key_on cost t)
least_chosen cost ts some r e = (
  least_of (key_on cost) ts,
  record { member = least_of_mem (key_on cost) ts some; least = λ u m. least_of_le (key_on cost) ts m },
  e ∙ least_keys cost ts some,
)

-- and holds it, with its distance
least_spot : (cost : Vector → ℕ) (ts : List ℕ) → 0 < length ts → OnGrid ts → (r : ℕ) → r ≡ least_of (λ k. k) (keys_of cost ts)
    → Chosen cost ts (spot_of r) × (distance_of r ≡ cost (vector_on (spot_of r)))
least_spot cost ts some g r e =
    let (t, c, is) = least_chosen cost ts some r e in
    let on = g t c.member in
    rw (is, spot_on cost t on) (c, distance_on cost t on)

pub nearest_chosen : (cost : Vector → ℕ) (ts keys : List ℕ) (count : ℕ) → 0 < count → count ≤ length keys → take count keys ≡ keys_of cost ts
    → (t : ℕ) × Chosen cost ts t × (nearest_key keys count ≡ key_on cost t)
unfolding nearest_key
nearest_chosen cost ts keys count h few e =
    least_chosen cost ts (omega (arith, listed_many cost ts keys count few e)) (nearest_key keys count) (ap (least_of (λ k. k)) e)

pub nearest_spot : (cost : Vector → ℕ) (ts keys : List ℕ) (count : ℕ) → 0 < count → count ≤ length keys → take count keys ≡ keys_of cost ts → OnGrid ts
    → let t = spot_of (nearest_key keys count) in Chosen cost ts t × (distance_of (nearest_key keys count) ≡ cost (vector_on t))
unfolding nearest_key
nearest_spot cost ts keys count h few e g =
    least_spot cost ts (omega (arith, listed_many cost ts keys count few e)) g (nearest_key keys count) (ap (least_of (λ k. k)) e)

kept_keys : (cost : Vector → ℕ) (limit : ℕ) (ts : List ℕ) → OnGrid ts
    → kept distance_of limit (keys_of cost ts) ≡ keys_of cost (kept (λ t. cost (vector_on t)) limit ts)
unfolding kept
kept_keys cost limit [] g = refl
kept_keys cost limit (t ∷ ts) g =
    ap (λ (d : ℕ). cond (leb d limit) (key_on cost t ∷ kept distance_of limit (keys_of cost ts)) (kept distance_of limit (keys_of cost ts)))
    (distance_on cost t (g t (Memᴰ.head refl)))
    ∙ go (leb (cost (vector_on t)) limit) (kept_keys cost limit ts (λ u m. g u (Memᴰ.tail m)))
  where
    go : (a : Bool) → kept distance_of limit (keys_of cost ts) ≡ keys_of cost (kept (λ t. cost (vector_on t)) limit ts)
        → cond a (key_on cost t ∷ kept distance_of limit (keys_of cost ts)) (kept distance_of limit (keys_of cost ts))
        ≡ keys_of cost (cond a (t ∷ kept (λ t. cost (vector_on t)) limit ts) (kept (λ t. cost (vector_on t)) limit ts))
    go true e = ap (λ l. key_on cost t ∷ l) e
    go false e = e

pub within_listed : (cost : Vector → ℕ) (ts : List ℕ) {limit count r : ℕ} {before after : List ℕ} → KeptWithin limit before count after r
    → OnGrid ts → take count before ≡ keys_of cost ts
    → (take r after ≡ keys_of cost (kept (λ t. cost (vector_on t)) limit ts)) × (r ≡ length (kept (λ t. cost (vector_on t)) limit ts))
within_listed cost ts {limit} k g e =
    let same = ap (kept distance_of limit) e ∙ kept_keys cost limit ts g in
    (k.front ∙ same, k.many ∙ ap length same ∙ length-map (kept (λ t. cost (vector_on t)) limit ts) (key_on cost))

-- each key of the front with a new distance: the keys of the same spots by another cost
measured_listed : (old cost : Vector → ℕ) (ts keys : List ℕ) (count : ℕ) → count ≤ length keys → take count keys ≡ keys_of old ts → OnGrid ts
    → list_to (λ i. measured_key cost (get_or keys i 0)) count ≡ keys_of cost ts
measured_listed old cost ts keys count few e g =
    list_to_ext _ (λ i. key_on cost (get_or ts i 0)) count each
    ∙ sym (keys_list_to cost (λ i. get_or ts i 0) count)
    ∙ ap (keys_of cost) (same ts count many)
  where
    many : length ts ≡ count
    many = listed_many old ts keys count few e

    same : (us : List ℕ) (n : ℕ) → length us ≡ n → list_to (λ i. get_or us i 0) n ≡ us
    same us n q =
        ext_get_or 0 _ us (length_list_to _ n ∙ sym q)
        (λ i l. get_d_list_to (λ k. get_or us k 0) n i 0 (rw (length_list_to (λ k. get_or us k 0) n) at l))

    each : (i : ℕ) → i < count → measured_key cost (get_or keys i 0) ≡ key_on cost (get_or ts i 0)
    each i l =
        let t = get_or ts i 0 in
        let on = g t (get_d_mem ts i (rw many l)) in
        let there : get_or keys i 0 ≡ key_on old t = sym (get_or-take count keys i 0 l) ∙ ap (λ (ks : List ℕ). get_or ks i 0) e ∙ keys_at old ts i (rw many l) in
        rw (there, spot_on old t on) (renewed_on old t on (cost (vector_on t)))

pub renewed_listed : (old cost : Vector → ℕ) (ts keys after : List ℕ) (count : ℕ) → count ≤ length keys → take count keys ≡ keys_of old ts → OnGrid ts
    → after ≡ fill_to keys 0 (λ i. renewed (get_or keys i 0) (cost (vector_on (spot_of (get_or keys i 0))))) count → take count after ≡ keys_of cost ts
renewed_listed old cost ts keys after count few e g h =
    ap (take count) (h ∙ fill_zero keys _ count)
    ∙ take_at (list_to _ count) (drop count keys) count (length_list_to _ count)
    ∙ measured_listed old cost ts keys count few e g

-- the least key of those measured is that of the candidate that is chosen
pub chosen_measured : (old : Vector → ℕ) (ts keys : List ℕ) (count : ℕ) → 0 < count → count ≤ length keys → take count keys ≡ keys_of old ts → OnGrid ts
    → (cost : Vector → ℕ) (r : ℕ) → r ≡ least_measured cost keys count
    → Chosen cost ts (spot_of r) × (distance_of r ≡ cost (vector_on (spot_of r)))
chosen_measured old ts keys count h few e g cost r is =
    least_spot cost ts (omega (arith, listed_many old ts keys count few e)) g r
    (is ∙ ap (least_of (λ k. k)) (measured_listed old cost ts keys count few e g))
