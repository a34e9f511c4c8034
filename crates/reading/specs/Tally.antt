-- How code counts votes: in an array with a place for each vector of window 16.
--   code       a vector's place: its row and column in the window
--   voted      the array after a block: one more for its vector if it votes
--   votes_at    what stands there for the vector at place k of the preference table
--   reading_in  the reading of such an array: the vector that has the most there, the first in preference order where several are equal
--   Tally      the votes of the first n blocks stand there; the array's reading is then theirs: tally-reading of proofs/Tally.antt
use Rattle.std.specs.Prelude.{ℕ, ◌+◌, ◌*◌, ◌≡◌, Bool, List, length, get_or, set}
use Rattle.base.specs.Tests.{one}
use Rattle.base.specs.Greatest.{most_to}
use Rattle.signed.specs.Values.{bias}
use Rattle.order.specs.declared.Vector.{Vector}
use Rattle.order.specs.Vectors.{Within, vector_count}
use Rattle.order.specs.Preference.{preferred}
use Rattle.reading.specs.declared.Reading.{Reading}
use Rattle.reading.specs.Reading.{votes}

abbrev pub code : Vector → ℕ
code v = bias 16 v.dy * 33 + bias 16 v.dx

abbrev pub voted : List ℕ → Vector → Bool → List ℕ
voted counted v voting = set counted (code v) (get_or counted (code v) 0 + one voting)

abbrev pub votes_at : List ℕ → ℕ → ℕ
votes_at counted k = get_or counted (code (preferred k)) 0

unfoldable pub reading_in : List ℕ → Reading
reading_in counted =
    let k = most_to (votes_at counted) vector_count in
    record { dy = (preferred k).dy; dx = (preferred k).dx; votes = votes_at counted k }

pub record Tally (voting : ℕ → Bool) (has : ℕ → Vector) (n : ℕ) (counted : List ℕ) : Type 0 where
  pub long : length counted ≡ vector_count
  pub each : (v : Vector) → Within 16 v → get_or counted (code v) 0 ≡ votes voting has n v
