-- What the functions answer where the numbers are the distances of a block's candidates, or any cost of their vectors.
--   laid             an array of 2088 numbers has room for the block's rows, n + 32 places apart
--   nearest_chosen   the least key of all is that of a chosen spot; within_kept: the spots within a limit are those whose cost is
use Prim.Native.Nat.{ℕ, ◌+◌, ◌*◌, ◌-◌, ◌/◌, ◌%◌, ◌≤◌}
use mathlib.Core.Path.{◌≡◌, refl, sym, ap, ◌∙◌}
use mathlib.Core.Bool.{cond}
use mathlib.Core.List.Memᴰ
use mathlib.Core.List.{List, [], ◌∷◌}
use native.Mathlib.Nat.{mul-le-mul}
use native.Mathlib.Omega.{arith}
use lib.Dec.{leb}
use lib.ListN.{length}
use Rattle.base.specs.Least.{◌∈◌}
use Rattle.order.specs.declared.Vector.{Vector}
use Rattle.frame.specs.declared.SearchBlock.{SearchBlock}
use Rattle.search.specs.Exhaustive.{grid_vector}
use Rattle.reach.specs.Reach.{Standing, reach, InReach}
use Rattle.reach.specs.Keys.{key_of}
use Rattle.reach.proofs.Candidates.{reach_bounds, reach_small}
use Rattle.reach.proofs.Keys.{key_spot}
use Rattle.full.specs.Rows.{LeastKey}
use Rattle.pruned_rule.specs.Sift.{kept}
use Rattle.pruned_rule.specs.Spots.{spots, vector_on, key_on, Chosen}
use Rattle.pruned_rule.proofs.Spots.{spots_all, spots_reach, key-on}
use Rattle.pruned_list.specs.Listed.{spot_of}
use Rattle.pruned_sift.specs.Laid.{Laid, number_at, key_in, within}

pub laid : (b : SearchBlock) → Standing b → (n : ℕ) → n ≤ 32 → (numbers : List ℕ) → 2088 ≤ length numbers → Laid numbers (n + 32) (reach b)
laid b s n small numbers long =
    let k = reach_bounds b s in
    let p : n + 32 ≤ 64 = omega arith in
    let q : (reach b).rows - 1 ≤ 32 = omega (arith, k.few_rows) in
    record {
      around =
          record { above = k.above; below = k.below; few_rows = k.few_rows; before = k.before; behind = k.behind; few_columns = k.few_columns };
      narrow = p;
      room = omega (arith, mul-le-mul p q, k.few_columns);
    }

-- what is kept of a list, by values that are the same on it
kept_same : (v w : ℕ → ℕ) (l : ℕ) (ts : List ℕ) → ((t : ℕ) → t ∈ ts → v t ≡ w t) → kept v l ts ≡ kept w l ts
unfolding kept
kept_same v w l [] h = refl
kept_same v w l (t ∷ ts) h =
    ap (λ (d : ℕ). cond (leb d l) (t ∷ kept v l ts) (kept v l ts)) (h t (Memᴰ.head refl))
    ∙ ap (λ (us : List ℕ). cond (leb (w t) l) (t ∷ us) us) (kept_same v w l ts (λ u m. h u (Memᴰ.tail m)))

module _ (b : SearchBlock) (s : Standing b) (cost : Vector → ℕ) (numbers : List ℕ) (pitch : ℕ)
    (are : (i j : ℕ) → InReach (reach b) i j → number_at numbers pitch (reach b) i j ≡ cost (grid_vector i j)) where
  -- the key of a row and a column in reach
  key_is : (i j : ℕ) → InReach (reach b) i j → key_in numbers pitch (reach b) i j ≡ key_of (cost (grid_vector i j)) i j
  key_is i j h = ap (λ (d : ℕ). key_of d i j) (are i j h)

  pub nearest_chosen : (key : ℕ) → LeastKey (key_in numbers pitch (reach b)) (reach b) key → Chosen cost (spots (reach b)) (spot_of key)
  nearest_chosen key l =
      let (i, j, h, e) = l.some in
      let (hi, hj) = reach_small b s i j h in
      let spot : spot_of key ≡ 64 * i + j = ap spot_of e ∙ key_spot i j hi hj (number_at numbers pitch (reach b) i j) in
      let is : key_on cost (64 * i + j) ≡ key = key-on b s cost i j h ∙ sym (e ∙ key_is i j h) in
      rw spot (record {
        member = spots_all (reach b) i j h;
        least = λ u m.
            let g = spots_reach b s m in
            omega (arith, is, key_is (u / 64) (u % 64) g, l.least (u / 64) (u % 64) g);
      })

  pub within_kept : (most : ℕ) → within numbers pitch (reach b) most (spots (reach b)) ≡ kept (λ t. cost (vector_on t)) most (spots (reach b))
  within_kept most = kept_same _ _ most (spots (reach b)) (λ t m. are (t / 64) (t % 64) (spots_reach b s m))
