-- A field by a search that answers with the exhaustive best, as searches 1 and 2 do: each block is listed by its exhaustive best with that vector's distortion,
-- and the reading is the vector that most voters have as exhaustive best.
--   Exact                        at each place where a block may stand, the search answers so: full_exact, pruned_exact
--   exact_at                     at grid block k
--   exact_entries                the list; exact_reading, exact_votes: the reading
use Prim.Native.Nat.{ℕ, ◌+◌, ◌≤◌, ◌<◌}
use mathlib.Core.Path.{◌≡◌, refl, ap, ap₂, ◌∙◌}
use mathlib.Core.List.{[], ◌∷◌}
use lib.Dec.{T}
use lib.IntN.{pos}
use Rattle.base.specs.Lists.{concat_to, concat_to_ext}
use Rattle.order.specs.declared.Vector.{Vector}
use Rattle.frame.specs.Pictures.{Pair, Fitting}
use Rattle.frame.specs.Grid.{blocks, block_row, block_column, block_down, block_across}
use Rattle.refusals.specs.declared.Request.{Request}
use Rattle.refusals.specs.Refusals.{block_size_ok}
use Rattle.distortion.specs.Blocks.{distortion}
use Rattle.search.specs.SearchResult.{vector_in}
use Rattle.search.specs.Exhaustive.{best}
use Rattle.full.specs.Full.{full_search}
use Rattle.pruned.specs.Answer.{pruned_search}
use Rattle.pruned.proofs.Blocks.{block_size_power}
use Rattle.pruned.proofs.Laws.{pruned_distortion, pruned_is_best}
use Rattle.block.specs.Block.{search_by, searched_full, searched_pruned}
use Rattle.voter.specs.Voter.{voting}
use Rattle.reading.specs.Reading.{votes, majority}
use Rattle.reading.proofs.Majority.{votes_ext, majority_ext}
use Rattle.field_block.specs.Blocks.{search_at, vector_of}
use Rattle.field.specs.Field.{entries_of}

pub record Exact (p : Pair) (q : Request) : Type 0 where
  pub at : (y x : ℕ) → y + p.setting.n ≤ p.setting.height → x + p.setting.n ≤ p.setting.width
      → (vector_in (search_by p q y x) ≡ best p q.w y x) × ((search_by p q y x).distortion ≡ distortion p y x (best p q.w y x))

module _ (p : Pair) (w y x : ℕ) (allowed : T (block_size_ok p.setting.n)) (small : w ≤ 16)
    (down : y + p.setting.n ≤ p.setting.height) (across : x + p.setting.n ≤ p.setting.width)
  where
    pruned_vector : vector_in (pruned_search p w y x) ≡ best p w y x
    pruned_vector = pruned_is_best p w y x (block_size_power p.setting.n allowed) small down across

    pub pruned_exact_at : (vector_in (pruned_search p w y x) ≡ best p w y x) × ((pruned_search p w y x).distortion ≡ distortion p y x (best p w y x))
    pruned_exact_at = (pruned_vector, pruned_distortion p w y x ∙ ap (distortion p y x) pruned_vector)

pub full_exact : (p : Pair) (q : Request) → q.search ≡ 1 → Exact p q
unfolding full_search
full_exact p q e = record { at = λ y x down across. rw (searched_full p q y x e) (refl, refl) }

pub pruned_exact : (p : Pair) (q : Request) → T (block_size_ok p.setting.n) → q.w ≤ 16 → q.search ≡ 2 → Exact p q
pruned_exact p q allowed small e =
    record { at = λ y x down across. rw (searched_pruned p q y x e) (pruned_exact_at p q.w y x allowed small down across) }

module _ (p : Pair) (q : Request) (fits : Fitting p.setting) (exact : Exact p q) where
  abbrev best_at : ℕ → Vector
  best_at k = best p q.w (block_row p.setting k) (block_column p.setting k)

  abbrev least_at : ℕ → ℕ
  least_at k = distortion p (block_row p.setting k) (block_column p.setting k) (best_at k)

  pub exact_at : (k : ℕ) → k < blocks p.setting → (vector_of p q k ≡ best_at k) × ((search_at p q k).distortion ≡ least_at k)
  unfolding search_at
  exact_at k h = exact.at (block_row p.setting k) (block_column p.setting k) (block_down p.setting fits k h) (block_across p.setting fits k h)

  pub exact_reading : majority (voting p) (vector_of p q) (blocks p.setting) ≡ majority (voting p) best_at (blocks p.setting)
  exact_reading = majority_ext _ _ _ (blocks p.setting) (λ k h. (exact_at k h).0)

  pub exact_votes : (v : Vector) → votes (voting p) (vector_of p q) (blocks p.setting) v ≡ votes (voting p) best_at (blocks p.setting) v
  exact_votes = votes_ext _ _ _ (blocks p.setting) (λ k h. (exact_at k h).0)

  pub exact_entries : entries_of (search_at p q) (blocks p.setting) ≡ concat_to (λ k. (best_at k).dy ∷ (best_at k).dx ∷ pos (least_at k) ∷ []) (blocks p.setting)
  unfolding entries_of
  exact_entries =
      concat_to_ext _ _ (blocks p.setting)
      (λ k h. ap₂ (λ (v : Vector) (d : ℕ). v.dy ∷ v.dx ∷ pos d ∷ []) (exact_at k h).0 (exact_at k h).1)
