-- A field's grid blocks, one by one.
--   search_at    what the requested search answers at grid block k; vector_of: its vector
--   Sound       what holds of each block's result, whatever the search: a vector of window 16, and numbers that are small
--   join        the sums with one block more, a voter or not; Bounded: small enough for that
use Rattle.std.specs.Prelude.{ℕ, ◌+◌, ◌*◌, ◌≤◌, ◌≡◌, Bool, List, length, get_or}
use Rattle.order.specs.declared.Vector.{Vector}
use Rattle.order.specs.Vectors.{Within, vector_count}
use Rattle.base.specs.Tests.{one}
use Rattle.base.specs.Lists.{list_to}
use Rattle.measures.specs.Measures.{squares}
use Rattle.frame.specs.Pictures.{Pair, largest_n, count_number}
use Rattle.frame.specs.Grid.{block_row, block_column}
use Rattle.refusals.specs.declared.Request.{Request}
use Rattle.search.specs.declared.SearchResult.{SearchResult}
use Rattle.search.specs.SearchResult.{vector_in}
use Rattle.block.specs.Block.{search_by}
use Rattle.field_block.specs.declared.Total.{Total}

module _ (p : Pair) (q : Request) where
  unfoldable pub search_at : ℕ → SearchResult
  search_at k = search_by p q (block_row p.setting k) (block_column p.setting k)

  abbrev pub vector_of : ℕ → Vector
  vector_of k = vector_in (search_at k)

pub record Sound (f : SearchResult) : Type 0 where
  pub within : Within 16 (vector_in f)
  pub distortion : f.distortion ≤ largest_n * (largest_n * squares.most)
  pub count : (i : ℕ) → get_or f.counts i 0 ≤ vector_count
  pub dropped : f.dropped ≤ vector_count

abbrev pub as_total : List ℕ → ℕ → ℕ → Total
as_total counts dropped voters = record { counts = counts; dropped = dropped; voters = voters }

abbrev pub join : Total → SearchResult → Bool → Total
join s f voting =
    let sum : ℕ → ℕ = λ i. get_or s.counts i 0 + get_or f.counts i 0 in
    as_total (list_to sum count_number) (s.dropped + f.dropped) (s.voters + one voting)

-- at most 1,048,576 blocks, and of each at most 1,089
pub record Bounded (s : Total) : Type 0 where
  pub long : length s.counts ≡ count_number
  pub count : (i : ℕ) → get_or s.counts i 0 ≤ 1141899264
  pub dropped : s.dropped ≤ 1141899264
  pub voters : s.voters ≤ 1048576
