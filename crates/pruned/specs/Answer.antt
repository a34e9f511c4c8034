-- What search 2 answers for the block at row y, column x of a pair, for window w: its steps (pruned_rule/specs/Prune.antt) over the block's
-- candidates, each known by its place in the preference table.
--   still_distortion   the distortion of (0,0), with which E begins
--   place_distortion   the distortion of the vector at place k of the preference table
--   place_distance     its distance at m, by the pair's measure
--   pruning           where search 2's steps end: what they leave, and what they drop
--   pruned_place       the place of the vector that they choose
--   pruned_search      what search 2 answers
use Rattle.std.specs.Prelude.{ℕ, pos, length}
use Rattle.order.specs.Preference.{preferred}
use Rattle.order.specs.Vectors.{vec}
use Rattle.frame.specs.Pictures.{Pair}
use Rattle.distortion.specs.Blocks.{measure_in, distortion, newer_block, older_block}
use Rattle.search.specs.declared.SearchResult.{SearchResult}
use Rattle.search.specs.SearchResult.{search_result}
use Rattle.search.specs.Exhaustive.{places}
use Rattle.pruned_rule.specs.Distance.{distances}
use Rattle.pruned_rule.specs.Prune.{Pruning, prune, pruned_best, counts, resolutions}

abbrev pub still_distortion : Pair → ℕ → ℕ → ℕ
still_distortion p y x = distortion p y x (vec (pos 0) (pos 0))

abbrev pub place_distortion : Pair → ℕ → ℕ → ℕ → ℕ
place_distortion p y x k = distortion p y x (preferred k)

abbrev pub place_distance : Pair → ℕ → ℕ → ℕ → ℕ → ℕ
place_distance p y x = distances (measure_in p) p.setting.n (newer_block p y x) (λ k. older_block p y x (preferred k))

module _ (p : Pair) (w y x : ℕ) where
  unfoldable pub pruning : Pruning
  pruning = prune (still_distortion p y x) (place_distortion p y x) (place_distance p y x) (measure_in p).limit p.setting.n (resolutions p.setting.n)
      (places p.setting w y x)

  unfoldable pub pruned_place : ℕ
  pruned_place = pruned_best (still_distortion p y x) (place_distortion p y x) (place_distance p y x) (measure_in p).limit p.setting.n
      (resolutions p.setting.n) (places p.setting w y x)

  unfoldable pub pruned_search : SearchResult
  pruned_search = search_result (preferred pruned_place) (distortion p y x (preferred pruned_place)) (counts pruning) (length pruning.dropped)
