-- 01, "Field, reading, track": "A block's exhaustive best is its candidate of least distortion (equals: preference order)". From candidates,
-- distortions and the order alone: no search, no table. There is one such vector, and one only: best-is and best-unique of proofs/Exhaustive.antt.
--   Best         v is the exhaustive best of the block at row y, column x, for window w
--   passing      the vectors of window 16 that pass a test, as places in the preference table, in preference order
--   places       the block's candidates, so
--   best         the first of least distortion among them
--   how_often     how often a vector stands at such places
--   candidates   the number of candidates, counted without the table over the vectors of window 16, by rows and columns: grid_vector
-- That places has each candidate of a window up to 16 once and nothing else, and is as long as there are candidates: proofs/Counted.antt.
use Rattle.std.specs.Prelude.{ℕ, ◌+◌, ◌≤◌, ◌≡◌, Bool, cond, List, [], ◌∷◌}
use Rattle.base.specs.Sum.{sum_over}
use Rattle.base.specs.Least.{least_of}
use Rattle.base.specs.Picks.{pick}
use Rattle.signed.specs.Values.{unbias}
use Rattle.order.specs.declared.Vector.{Vector}
use Rattle.order.specs.Vectors.{vec, Precedes, same?, vector_count}
use Rattle.order.specs.Preference.{preferred}
use Rattle.frame.specs.declared.Setting.{Setting}
use Rattle.frame.specs.Pictures.{Pair}
use Rattle.frame.specs.Candidates.{Candidate, candidate}
use Rattle.distortion.specs.Blocks.{distortion}

pub record Best (p : Pair) (w y x : ℕ) (v : Vector) : Type 0 where
  pub candidate : Candidate p.setting w y x v
  pub least : (u : Vector) → Candidate p.setting w y x u → distortion p y x v ≤ distortion p y x u
  pub first : (u : Vector) → Candidate p.setting w y x u → distortion p y x u ≡ distortion p y x v → (u ≡ v → ⊥) → Precedes v u

abbrev pub passing : (Vector → Bool) → List ℕ
passing test = pick (λ k. test (preferred k)) vector_count

abbrev pub places : Setting → ℕ → ℕ → ℕ → List ℕ
places s w y x = passing (candidate s w y x)

unfoldable pub best : Pair → ℕ → ℕ → ℕ → Vector
best p w y x = preferred (least_of (λ k. distortion p y x (preferred k)) (places p.setting w y x))

unfoldable pub how_often : Vector → List ℕ → ℕ
how_often v [] = 0
how_often v (k ∷ ks) = cond (same? (preferred k) v) 1 0 + how_often v ks

-- the vector in row i, column j of window 16
abbrev pub grid_vector : ℕ → ℕ → Vector
grid_vector i j = vec (unbias 16 i) (unbias 16 j)

unfoldable pub candidates : Setting → ℕ → ℕ → ℕ → ℕ
candidates s w y x = sum_over 33 33 (λ i j. cond (candidate s w y x (grid_vector i j)) 1 0)
