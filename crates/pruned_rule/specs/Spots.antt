-- The candidates by rows and columns of window 16 instead of by their places in the preference table: row i, column j is the spot 64 * i + j.
--   spots      the spots of a region, row after row
--   vector_on   the vector that stands on a spot
--   key_on      its key: what is compared first, then the preference order
--   kept_on     those of some spots that are within the limit at m for E
--   Chosen     a spot of least key among some
--   places_of   the places of a block's candidates; choice_of: the candidate of least cost, first in preference order among equals
use Rattle.std.specs.Prelude.{ℕ, ◌+◌, ◌*◌, ◌/◌, ◌%◌, ◌≤◌, List}
use Rattle.base.specs.Lists.{list_to, concat_to}
use Rattle.base.specs.Least.{◌∈◌, least_of}
use Rattle.order.specs.declared.Vector.{Vector}
use Rattle.order.specs.Preference.{preferred}
use Rattle.frame.specs.declared.SearchBlock.{SearchBlock}
use Rattle.frame.specs.declared.Region.{Region}
use Rattle.search.specs.Exhaustive.{places, grid_vector}
use Rattle.reach.specs.Keys.{key_of}
use Rattle.pruned_rule.specs.Sift.{kept}

unfoldable pub spots : Region → List ℕ
spots r = concat_to (λ i. list_to (λ j. 64 * (r.top + i) + (r.left + j)) r.columns) r.rows

abbrev pub vector_on : ℕ → Vector
vector_on t = grid_vector (t / 64) (t % 64)

abbrev pub key_on : (Vector → ℕ) → ℕ → ℕ
key_on cost t = key_of (cost (vector_on t)) (t / 64) (t % 64)

abbrev pub kept_on : (dist : ℕ → Vector → ℕ) (limit : ℕ → ℕ → ℕ) (m e : ℕ) → List ℕ → List ℕ
kept_on dist limit m e ts = kept (λ t. dist m (vector_on t)) (limit m e) ts

pub record Chosen (cost : Vector → ℕ) (ts : List ℕ) (t : ℕ) : Type 0 where
  pub member : t ∈ ts
  pub least : (u : ℕ) → u ∈ ts → key_on cost t ≤ key_on cost u

abbrev pub places_of : SearchBlock → List ℕ
places_of b = places b.setting b.w b.y b.x

abbrev pub choice_of : SearchBlock → (Vector → ℕ) → Vector
choice_of b cost = preferred (least_of (λ k. cost (preferred k)) (places_of b))
