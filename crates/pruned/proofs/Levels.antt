-- What a test leaves in memory.
--   kept_clipped   numbers of 32 bits within a limit are those within the limit as far as 32 bits go
--   all_kept       so those of all candidates that are within the limit are those whose distance is
--   resolved       a power of two up to N is a resolution of N
use Prim.Native.Nat.{ℕ, ◌+◌, ◌-◌, ◌*◌, ◌/◌, ◌%◌, ◌^◌, ◌≤◌, ◌<◌, min}
use mathlib.Core.Path.{◌≡◌, refl, sym, ap, ◌∙◌, subst}
use mathlib.Core.Logic.{⊎_elim, inl, inr}
use mathlib.Core.Bool.{Bool, true, false, ◌&&◌, ◌||◌}
use mathlib.Core.List.Memᴰ
use mathlib.Core.List.{List, [], ◌∷◌}
use native.Mathlib.Nat.{le_trans, mul-le-mul}
use native.Mathlib.Decide.{dec_le, ℕ_discrete}
use native.Mathlib.Omega.{arith}
use borrow.Author.Tests.{lt-ltb, le-leb, lt-leb, ne_eqb}
use lib.Dec.{T, eqb, leb, leb→le}
use lib.Pow.{pow-lt}
use lib.ListN.{length, get_or, take}
use Rattle.base.specs.Least.{◌∈◌}
use Rattle.order.specs.declared.Vector.{Vector}
use Rattle.frame.specs.declared.Region.{Region}
use Rattle.frame.specs.declared.Setting.{Setting}
use Rattle.frame.specs.declared.SearchBlock.{SearchBlock}
use Rattle.refusals.specs.Refusals.{block_size_ok, block_size_elim}
use Rattle.reach.specs.Reach.{Standing, reach}
use Rattle.reach.proofs.Candidates.{reach_bounds}
use Rattle.pruned_rule.specs.Sift.{kept}
use Rattle.pruned_rule.specs.Spots.{spots, vector_on}
use Rattle.pruned_rule.proofs.Spots.{spots_reach}
use Rattle.boxes.specs.Boxes.{Cut}
use Rattle.boxes.specs.Distances.{Resolution}
use Rattle.pruned_sift.specs.Laid.{within}
use Rattle.pruned_sift.proofs.Distances.{within_kept}
use Rattle.pruned_list.specs.Listed.{keys_of}
use Rattle.pruned.specs.Flow.{limit_of, Distances, fits, few, by_all, Roomy, Held}

clip_test : (a l m : ℕ) → a ≤ m → leb a (min l m) ≡ leb a l
clip_test a l m h = go (dec_le a l)
  where
    go : Dec (a ≤ l) → leb a (min l m) ≡ leb a l
    go (yes p) = le-leb a (min l m) (omega arith) ∙ sym (le-leb a l p)
    go (no d) = lt-leb a (min l m) (omega arith) ∙ sym (lt-leb a l (omega arith))

pub kept_clipped : (v : ℕ → ℕ) (l m : ℕ) (ts : List ℕ) → ((t : ℕ) → t ∈ ts → v t ≤ m) → kept v (min l m) ts ≡ kept v l ts
unfolding kept
kept_clipped v l m [] h = refl
kept_clipped v l m (t ∷ ts) h =
    rw (clip_test (v t) l m (h t (Memᴰ.head refl)), kept_clipped v l m ts (λ u i. h u (Memᴰ.tail i))) refl

pub all_kept : (b : SearchBlock) → Standing b → (cost : Vector → ℕ) (numbers : List ℕ) → ((k : ℕ) → get_or numbers k 0 ≤ 4294967295) → Distances cost b numbers
    → (l : ℕ) → within numbers (b.setting.n + 32) (reach b) (min l 4294967295) (spots (reach b)) ≡ kept (λ t. cost (vector_on t)) l (spots (reach b))
all_kept b s cost numbers small are l =
    within_kept b s cost numbers (b.setting.n + 32) are (min l 4294967295)
    ∙ kept_clipped (λ t. cost (vector_on t)) l 4294967295 (spots (reach b))
    (λ t i. omega (arith, are (t / 64) (t % 64) (spots_reach b s i), small ((b.setting.n + 32) * (t / 64 - (reach b).top) + (t % 64 - (reach b).left))))

pub power_few : (k : ℕ) → 2 ^ k ≤ 32 → k ≤ 5
power_few k h = go (dec_le k 5)
  where
    go : Dec (k ≤ 5) → k ≤ 5
    go (yes l) = l
    go (no l) = let above : 32 < 2 ^ k = pow-lt {i = 5} {j = k} (omega arith) in absurd (omega arith)

pub resolved : (n m k : ℕ) → n ≤ 32 → m ≤ n → m ≡ 2 ^ k → Resolution n m
resolved n m k small inside power = go (ℕ_discrete m 32)
  where
    go : Dec (m ≡ 32) → Resolution n m
    go (yes e) = inr (omega arith, e)
    go (no d) = inl (record { exponent = k; few = low (ℕ_discrete k 5); power = power; inside = inside })
      where
        low : Dec (k ≡ 5) → k ≤ 4
        low (yes e) = absurd (d (power ∙ ap (λ (j : ℕ). 2 ^ j) e))
        low (no f) = omega (arith, power_few k (omega arith))

-- ---- in memory

-- at most 33 rows and columns
pub reach_room : (b : SearchBlock) → Standing b → (r : Region) → r ≡ reach b
    → (r.rows * r.columns ≤ 1089) × (r.top + r.rows ≤ 33) × (r.left + r.columns ≤ 33) × (0 < r.rows * r.columns)
reach_room b s r e =
    let d = reach_bounds b s in
    rw e (mul-le-mul {n₂ = 33} {m₂ = 33} (omega (arith, d.few_rows)) (omega (arith, d.few_columns)), d.few_rows, d.few_columns, mul-le-mul {n₁ = 1} {m₁ = 1} d.rows d.columns)

-- some spots that are not listed
pub unlisted_held : (b : SearchBlock) (m : ℕ) (ts keys : List ℕ) (count bound : ℕ) → length ts ≡ count → T (by_all b.setting m count)
    → Held b m ts keys (record { count = count; bound = bound })
unlisted_held b m ts keys count bound many all = record { many = many; listed = λ e. absurd (subst T e all) }

-- some spots whose keys stand in front
pub listed_held : (b : SearchBlock) (m : ℕ) (ts keys : List ℕ) (count bound : ℕ) (cost : Vector → ℕ) → length ts ≡ count → count ≤ length keys
    → take count keys ≡ keys_of cost ts → Held b m ts keys (record { count = count; bound = bound })
listed_held b m ts keys count bound cost many room front =
    record { many = many; listed = λ e. (room, (cost, front)) }

-- room for the list of all candidates, where they are listed
pub list_room : (s : Setting) (count room : ℕ) → by_all s s.n count ≡ false → Roomy s room → count ≤ 1089 → count ≤ room
list_room s count room e r h = go (dec_le count few)
  where
    go : Dec (count ≤ few) → count ≤ room
    go (yes low) = omega (arith, r.0)
    go (no high) = le_trans h (r.1 (ap (λ t. t && fits s s.n) (sym (lt-ltb few count (omega arith))) ∙ e))

pub many_all : (s : Setting) (m count : ℕ) → few < count → T (fits s m) → T (by_all s m count)
many_all s m count h t = rw (lt-ltb few count h) t

-- of all candidates, those within the limit
module _ (b : SearchBlock) (s : Standing b) (m e : ℕ) (numbers : List ℕ) (small : (k : ℕ) → get_or numbers k 0 ≤ 4294967295) (r : Region) (is : r ≡ reach b)
    (most count : ℕ) (limit : most ≡ min (limit_of b m e) 4294967295)
    (counted : count ≡ length (within numbers (b.setting.n + 32) r most (spots r))) (cost : Vector → ℕ) (are : Distances cost b numbers) where
  abbrev left : List ℕ
  left = kept (λ t. cost (vector_on t)) (limit_of b m e) (spots (reach b))

  left_is : within numbers (b.setting.n + 32) r most (spots r) ≡ left
  left_is = rw (is, limit) (all_kept b s cost numbers small are (limit_of b m e))

  pub many_left : few < count → T (fits b.setting m) → (keys : List ℕ)
      → Held b m left keys (record { count = count; bound = e })
  many_left h t keys = unlisted_held b m left keys count e (ap length (sym left_is) ∙ sym counted) (many_all b.setting m count h t)

  pub few_left : (keys : List ℕ) → count ≤ length keys
      → take count keys ≡ keys_of (λ v. 0) (within numbers (b.setting.n + 32) r most (spots r))
      → Held b m left keys (record { count = count; bound = e })
  few_left keys room front =
      listed_held b m left keys count e (λ v. 0) (ap length (sym left_is) ∙ sym counted) room (front ∙ ap (keys_of (λ v. 0)) left_is)

-- by squares distances have 32 bits where N × m is at most 256, and there are boxes of such m
pub squares_fit : (s : Setting) (m : ℕ) → (s.measure ≡ 1 → ⊥) → T (fits s m) → s.n * m ≤ 256
unfolding fits
squares_fit s m h t = leb→le (s.n * m) 256 (rw (ne_eqb s.measure 1 h) at t)

pub fine_cut : (n m : ℕ) → n * m ≤ 256 → Resolution n m → Cut n m
fine_cut n m h = ⊎_elim (λ c. c) (λ (e : (n ≡ 32) × (m ≡ 32)). let l : 32 * 32 ≤ 256 = rw (e.0, e.1) at h in absurd (omega arith))

-- ---- memory

-- the N below 32
pub size_below : (n : ℕ) → T (block_size_ok n) → (n ≡ 32 → ⊥) → n ≤ 16
size_below =
    block_size_elim (λ n. (n ≡ 32 → ⊥) → n ≤ 16) (λ h. omega arith) (λ h. omega arith) (λ h. omega arith) (λ h. absurd (h refl))

-- with N up to 16 all distances have 32 bits
pub small_fits : (s : Setting) → s.n ≤ 16 → fits s s.n ≡ true
unfolding fits
small_fits s h = rw (le-leb (s.n * s.n) 256 (mul-le-mul {n₂ = 16} {m₂ = 16} h h)) (or_true (eqb s.measure 1))
  where
    or_true : (t : Bool) → t || true ≡ true
    or_true true = refl
    or_true false = refl
