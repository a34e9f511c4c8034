-- 01, "The four searches": "The result of a search carries a vector, a distortion and five counts, for m = 16, 8, 4, 2, 1. Unused ones are 0.
-- It also carries the number dropped". 02, request 4: "Counts become six, for m = 32 first".
--   search_result    the answer of a search that was not refused
--   refused_search   the answer of a refused one: the number, and zeros elsewhere
--   only_at_one       the counts of a search that counts at m = 1 alone
--   vector_in        the vector of an answer
--   probes          its count at m = 1
use Rattle.std.specs.Prelude.{ℕ, List, [], ◌∷◌, ◌++◌, pos, get_or, replicate}
use Rattle.order.specs.declared.Vector.{Vector}
use Rattle.order.specs.Vectors.{vec}
use Rattle.frame.specs.Pictures.{last_count}
use Rattle.search.specs.declared.SearchResult.{SearchResult}

abbrev pub search_result : Vector → ℕ → List ℕ → ℕ → SearchResult
search_result v d counts dropped = record { refusal = 0; dy = v.dy; dx = v.dx; distortion = d; counts = counts; dropped = dropped }

abbrev pub only_at_one : ℕ → List ℕ
only_at_one n = replicate last_count 0 ++ (n ∷ [])

abbrev pub refused_search : ℕ → SearchResult
refused_search refusal = record { refusal = refusal; dy = pos 0; dx = pos 0; distortion = 0; counts = only_at_one 0; dropped = 0 }

abbrev pub vector_in : SearchResult → Vector
vector_in f = vec f.dy f.dx

abbrev pub probes : SearchResult → ℕ
probes f = get_or f.counts last_count 0
