-- How the code holds what a search has seen: BestSoFar (src) keeps the best vector as a Point, by dy + 16 and dx + 16, its distortion and the number measured.
--   point      the vector that two such parts are; vector_of: of a Point
--   seen_of     what the search has seen; one_more: with one more counted
--   offset     the vector of a pair [dy, dx]; pairs: those of a table of pairs
--   Pattern    a table of at most nine offset pairs, each in window 2
--   probe_new   a point is tried, where it is not among those of a list
--   Ongoing    what a step asks: room in the count for so many more
--   Holds      what a step promises: it holds what the definition says, with at most so many measured
--   result_of   the answer. 01: "Searches 3 and 4 count at m = 1."
use Rattle.std.specs.Prelude.{ℕ, ◌+◌, ◌≤◌, ◌<◌, ◌≡◌, cond, List, [], ◌∷◌, ℤ, pos, length, get_or}
use Rattle.signed.specs.Values.{unbias}
use Rattle.order.specs.declared.Vector.{Vector}
use Rattle.order.specs.Vectors.{vec, Within}
use Rattle.search.specs.declared.SearchResult.{SearchResult}
use Rattle.search.specs.Target.{Target}
use Rattle.search.specs.SearchResult.{search_result, only_at_one}
use Rattle.base.specs.Lists.{Each}
use Rattle.probe.specs.declared.point.Point.{Point}
use Rattle.probe.specs.declared.BestSoFar.{BestSoFar}
use Rattle.probe.specs.Probe.{Seen, seen, probe_point, is_in}

abbrev pub point : ℕ → ℕ → Vector
point y x = vec (unbias 16 y) (unbias 16 x)

abbrev pub vector_of : Point → Vector
vector_of p = point p.y p.x

abbrev pub seen_of : BestSoFar → Seen
seen_of h = seen (vector_of h.at) h.least h.count

abbrev pub one_more : BestSoFar → BestSoFar
one_more h = record { at = h.at; least = h.least; count = h.count + 1 }

abbrev pub offset : List ℤ → Vector
offset o = vec (get_or o 0 (pos 0)) (get_or o 1 (pos 0))

unfoldable pub pairs : List (List ℤ) → List Vector
pairs [] = []
pairs (o ∷ os) = offset o ∷ pairs os

pub record Pattern (offsets : List (List ℤ)) : Type 0 where
  pub short : length offsets ≤ 9
  pub near : Each (Within 2) (pairs offsets)

unfoldable pub probe_new : Target → List Vector → Seen → Vector → Seen
probe_new t before s v = cond (is_in v before) s (probe_point t s v)

pub record Ongoing (s : BestSoFar) (n : ℕ) : Type 0 where
  pub room : s.count + n < 4294967296

pub record Holds (r : BestSoFar) (s : Seen) (most : ℕ) : Type 0 where
  pub is : seen_of r ≡ s
  pub few : r.count ≤ most

unfoldable pub result_of : Seen → SearchResult
result_of s = search_result s.best s.least (only_at_one s.count) 0
