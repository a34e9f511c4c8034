-- 01, "The four searches", search 1: "the least distortion; equals go to the earlier in preference order. The m = 1 count is the number of
-- candidates."
--   full_search   the answer of search 1 for the block at row y, column x
use Rattle.std.specs.Prelude.{ℕ, length}
use Rattle.frame.specs.Pictures.{Pair}
use Rattle.distortion.specs.Blocks.{distortion}
use Rattle.search.specs.declared.SearchResult.{SearchResult}
use Rattle.search.specs.SearchResult.{search_result, only_at_one}
use Rattle.search.specs.Exhaustive.{places, best}

unfoldable pub full_search : Pair → ℕ → ℕ → ℕ → SearchResult
full_search p w y x = search_result (best p w y x) (distortion p y x (best p w y x)) (only_at_one (length (places p.setting w y x))) 0
