-- Search 1 answers with the exhaustive best, its distortion, and the number of candidates, as counted without the table.
use Prim.Native.Nat.{ℕ, ◌+◌, ◌≤◌}
use mathlib.Core.Path.{◌≡◌, refl}
use Rattle.frame.specs.Pictures.{Pair}
use Rattle.distortion.specs.Blocks.{distortion}
use Rattle.search.specs.SearchResult.{vector_in, probes}
use Rattle.search.specs.Exhaustive.{Best, candidates}
use Rattle.search.proofs.Exhaustive.{best_is}
use Rattle.search.proofs.Counted.{places_counted}
use Rattle.full.specs.Full.{full_search}

module _ (p : Pair) (w y x : ℕ) (small : w ≤ 16) (down : y + p.setting.n ≤ p.setting.height) (across : x + p.setting.n ≤ p.setting.width) where
  pub full_best : Best p w y x (vector_in (full_search p w y x))
  unfolding full_search
  full_best = best_is p w y x small down across

  pub full_distortion : (full_search p w y x).distortion ≡ distortion p y x (vector_in (full_search p w y x))
  unfolding full_search
  full_distortion = refl

  pub full_count : probes (full_search p w y x) ≡ candidates p.setting w y x
  unfolding full_search
  full_count = places_counted p.setting w y x
