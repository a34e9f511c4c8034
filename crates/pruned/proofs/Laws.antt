-- What search 2's answer is worth. Whatever N is, dropped and finally measured are all candidates. Where N is a power of two, at a block that stands
-- wholly inside, the answer is the exhaustive best, because no test drops it, and what is dropped is strictly worse. That the counts are enough is said
-- of the N that are allowed.
use Prim.Native.Nat.{ℕ, ◌+◌, ◌≤◌, ◌<◌}
use mathlib.Core.Path.{◌≡◌, refl, ap, ◌∙◌}
use lib.Dec.{T}
use lib.ListN.{length, get_or}
use Rattle.base.specs.Least.{◌∈◌}
use Rattle.order.specs.Preference.{preferred}
use Rattle.order.proofs.Order.{first_still}
use Rattle.frame.specs.Pictures.{Pair, last_count}
use Rattle.refusals.specs.Refusals.{block_size_ok}
use Rattle.distortion.specs.Blocks.{measure_in, distortion, newer_block, older_block}
use Rattle.search.specs.SearchResult.{vector_in, probes}
use Rattle.search.specs.Exhaustive.{Best, places, best}
use Rattle.search.proofs.Exhaustive.{best_below, best_is, best_unique, still_passes}
use Rattle.pruned_rule.specs.Prune.{resolutions}
use Rattle.pruned_rule.proofs.Blocks.{measure_lawful}
use Rattle.pruned_rule.proofs.Counts.{Counted, prune_counted, search_counts, counts_few, dropped_few, last-count}
use Rattle.pruned_rule.proofs.Pruned.{Attained, still_attained, Holds, prune_holds}
use Rattle.pruned_rule.proofs.Search.{PowerOfTwo, resolutions_divide, search_best, search_drops}
use Rattle.pruned.specs.Answer.{still_distortion, place_distortion, pruning, pruned_place, pruned_search}
use Rattle.pruned.proofs.Blocks.{few_rounds, safe_at}

-- whatever the block is
module _ (p : Pair) (w y x : ℕ) where
  pub pruned_distortion : (pruned_search p w y x).distortion ≡ distortion p y x (vector_in (pruned_search p w y x))
  unfolding pruned_search
  pruned_distortion = refl

  pub pruned_counted : Counted (places p.setting w y x) (pruning p w y x)
  unfolding pruning
  pruned_counted = prune_counted _ _ _ _ _ _ _

  -- no count exceeds the number of candidates
  pub counts_at_most : (j : ℕ) → get_or (pruned_search p w y x).counts j 0 ≤ length (places p.setting w y x)
  unfolding pruned_search pruning
  counts_at_most = counts_few _ _ _ _ _ _ _

  pub dropped_at_most : (pruned_search p w y x).dropped ≤ length (places p.setting w y x)
  unfolding pruned_search pruning
  dropped_at_most = dropped_few _ _ _ _ _ _ _

  -- dropped and finally measured are all candidates
  pub all_counted : (pruned_search p w y x).dropped + length (pruning p w y x).left ≡ length (places p.setting w y x)
  unfolding pruned_search pruning
  all_counted = search_counts _ _ _ _ _ _ _

  -- where each resolution has its count, the last of them, at m = 1, is how many are finally measured
  pub measured : length (resolutions p.setting.n) < last_count → probes (pruned_search p w y x) ≡ length (pruning p w y x).left
  unfolding pruned_search pruning
  measured few = last-count _ _ _ _ _ _ _ few

-- N a power of two, and the block wholly inside
module _ (p : Pair) (w y x : ℕ) (power : PowerOfTwo p.setting.n) (small : w ≤ 16) (down : y + p.setting.n ≤ p.setting.height)
    (across : x + p.setting.n ≤ p.setting.width) where
  -- E begins as the distortion of (0,0), the candidate at place 0
  still_is : place_distortion p y x 0 ≡ still_distortion p y x
  still_is = ap (distortion p y x) first_still

  pub still_given : Attained (place_distortion p y x) (places p.setting w y x) (still_distortion p y x)
  still_given = still_attained (place_distortion p y x) _ 1088 (still_distortion p y x) (still_passes p w y x small down across) still_is

  -- what holds of the candidates left and those dropped
  pub pruned_holds : Holds (place_distortion p y x) (places p.setting w y x) (pruning p w y x)
  unfolding pruning
  pruned_holds = prune_holds _ _ _ _ _ _ _ still_given (λ m i. safe_at p y x m (resolutions_divide p.setting.n power m i))

  -- the answer is the exhaustive best
  pub pruned-best : Best p w y x (vector_in (pruned_search p w y x))
  unfolding pruned_search pruned_place distortion
  pruned-best =
      best_below p w y x small (pruned_place p w y x)
      (search_best (measure_in p) (measure_lawful p.setting.measure) p.setting.n (newer_block p y x) (λ k. older_block p y x (preferred k))
      (resolutions p.setting.n) (still_distortion p y x)
      (resolutions_divide p.setting.n power) _ 1088 (still_passes p w y x small down across) still_is)

  -- which is one vector: what the full search answers with
  pub pruned_is_best : vector_in (pruned_search p w y x) ≡ best p w y x
  pruned_is_best = best_unique p w y x small _ _ pruned-best (best_is p w y x small down across)

  -- every candidate dropped has strictly more
  pub pruned_drops : {k : ℕ} → k ∈ (pruning p w y x).dropped → (pruned_search p w y x).distortion < distortion p y x (preferred k)
  unfolding pruned_search pruned_place pruning distortion
  pruned_drops i =
      search_drops (measure_in p) (measure_lawful p.setting.measure) p.setting.n (newer_block p y x) (λ k. older_block p y x (preferred k))
      (resolutions p.setting.n) (places p.setting w y x) (still_distortion p y x) still_given (resolutions_divide p.setting.n power) i

-- the N that are allowed
module _ (p : Pair) (w y x : ℕ) (allowed : T (block_size_ok p.setting.n)) where
  pub pruned_probes : probes (pruned_search p w y x) ≡ length (pruning p w y x).left
  pruned_probes = measured p w y x (few_rounds p.setting.n allowed)

  pub pruned_adds : (pruned_search p w y x).dropped + probes (pruned_search p w y x) ≡ length (places p.setting w y x)
  pruned_adds = ap (◌+◌ _) pruned_probes ∙ all_counted p w y x
