-- Every search's answer is sound: its vector is a candidate, so it lies in window 16; a distortion of bytes is at most 65,025 × N² by either measure; and no search counts more
-- than the 1,089 vectors of window 16.
use Prim.Native.Nat.{ℕ, zero, suc, ◌+◌, ◌≤◌, ◌<◌}
use mathlib.Core.Path.{◌≡◌, refl}
use mathlib.Core.List.{List, [], ◌∷◌}
use native.Mathlib.Nat.{le_trans}
use native.Mathlib.Omega.{arith}
use lib.Dec.{T}
use lib.ListN.{length, get_or, replicate}
use Rattle.base.specs.Tests.{T_true}
use Rattle.base.specs.Picks.{pick_few}
use Rattle.base.specs.AtMost.{one_most, zeros_most, append_most}
use Rattle.order.specs.declared.Vector.{Vector}
use Rattle.order.specs.Vectors.{vector_count}
use Rattle.refusals.specs.declared.Request.{Request}
use Rattle.frame.specs.Pictures.{Pair, pair_of, last_count}
use Rattle.frame.specs.Grid.{blocks, block_row, block_column, block_down, block_across}
use Rattle.refusals.specs.Cross.{cross_window, cross as cross-is}
use Rattle.refusals.specs.Refusals.{setting_of, Requested, window_small, window_ok}
use Rattle.distortion.specs.Blocks.{Bytes, distortion_most, distortion_largest}
use Rattle.search.specs.declared.SearchResult.{SearchResult}
use Rattle.search.specs.SearchResult.{search_result, only_at_one}
use Rattle.search.specs.Target.{target}
use Rattle.search.specs.Exhaustive.{places}
use Rattle.probe.specs.Probe.{Seen}
use Rattle.probe.proofs.Probe.{within_more}
use Rattle.probe.specs.BestSoFar.{result_of}
use Rattle.four_step.proofs.FourStep.{four_step_count}
use Rattle.cross.proofs.Cross.{cross_count}
use Rattle.full.specs.Full.{full_search}
use Rattle.pruned.proofs.Laws.{counts_at_most, dropped_at_most}
use Rattle.block.specs.Block.{search_by, searched_full, searched_pruned, searched_four_step, searched_cross}
use Rattle.block.proofs.Own.{searched_own}
use Rattle.field_block.specs.Blocks.{search_at, Sound}

-- no count is larger than the number of all vectors
record Few (f : SearchResult) : Type 0 where
  count : (i : ℕ) → get_or f.counts i 0 ≤ vector_count
  dropped : f.dropped ≤ vector_count

-- an answer that counts at m = 1 alone
few_at_one : (v : Vector) (d n : ℕ) → n ≤ vector_count → Few (search_result v d (only_at_one n) 0)
few_at_one v d n h = record {
  count = append_most vector_count (replicate last_count 0) (n ∷ []) (zeros_most _ last_count) (one_most _ n h);
  dropped = omega arith;
}

places_few : (p : Pair) (w y x : ℕ) → length (places p.setting w y x) ≤ vector_count
places_few p w y x = pick_few _ vector_count

full_few : (p : Pair) (w y x : ℕ) → Few (full_search p w y x)
unfolding full_search
full_few p w y x = few_at_one _ _ _ (places_few p w y x)

-- searches 3 and 4
probed_few : (s : Seen) → s.count ≤ vector_count → Few (result_of s)
unfolding result_of
probed_few s h = few_at_one _ _ _ h

-- whichever search a request asks for
module _ (older newer : List ℕ) (q : Request) (bytes : Bytes older × Bytes newer) (request : Requested (length older) (length newer) q) (y x : ℕ)
    (down : y + q.n ≤ q.height) (across : x + q.n ≤ q.width) where
  abbrev p : Pair
  p = pair_of older newer (setting_of q)

  cross_few : q.search ≡ 4 → Few (search_by p q y x)
  unfolding window_ok
  cross_few e =
      let c : T (cross_window q.w) = rw e at request.window in
      let few = cross_count (target p q.w y x) q.t q.w (T_true _ c) in
      rw (searched_cross p q y x e) (probed_few _ (omega (arith, few, (cross-is q.w c).few)))

  searched_few : Few (search_by p q y x)
  searched_few = go q.search refl request.least request.most
    where
      go : (n : ℕ) → q.search ≡ n → 1 ≤ n → n ≤ 4 → Few (search_by p q y x)
      go zero e a b = absurd (omega arith)
      go (suc zero) e a b = rw (searched_full p q y x e) (full_few p q.w y x)
      go (suc (suc zero)) e a b =
          let few = places_few p q.w y x in
          rw (searched_pruned p q y x e)
          (record { count = λ i. le_trans (counts_at_most p q.w y x i) few; dropped = le_trans (dropped_at_most p q.w y x) few })
      go (suc (suc (suc zero))) e a b = rw (searched_four_step p q y x e) (probed_few _ (le_trans (four_step_count _) (omega arith)))
      go (suc (suc (suc (suc zero)))) e a b = cross_few e
      go (suc (suc (suc (suc (suc n))))) e a b = absurd (omega arith)

  pub searched_sound : Sound (search_by p q y x)
  searched_sound =
      let own = searched_own older newer q request y x down across in
      let few = searched_few in
      record {
        within = within_more (window_small q.search q.w request.window) own.chosen.window;
        distortion = rw own.reported
            (le_trans (distortion_most p y x _ bytes.0 bytes.1) (distortion_largest q.measure q.n request.paired.allowed));
        count = few.count;
        dropped = few.dropped;
      }

-- what a search answers at grid block k
pub block_is : (older newer : List ℕ) (q : Request) (bytes : Bytes older × Bytes newer) (request : Requested (length older) (length newer) q)
    (k : ℕ) → k < blocks (setting_of q) → (r : SearchResult) → r ≡ search_by (pair_of older newer (setting_of q)) q (block_row (setting_of q) k) (block_column (setting_of q) k)
    → (r ≡ search_at (pair_of older newer (setting_of q)) q k) × Sound r
unfolding search_at
block_is older newer q bytes request k h r e =
    let f = request.paired.fitting in
    (e, rw e (searched_sound older newer q bytes request _ _ (block_down (setting_of q) f k h) (block_across (setting_of q) f k h)))
