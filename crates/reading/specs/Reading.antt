-- 01, "Field, reading, track": "The reading is the vector of most blocks (equals: preference order) with its votes." 02, request 3: of those blocks that
-- vote; "The reading gives votes and voters".
-- Here block k has the vector (has k), and there are n blocks; those that vote are any set of them, by the test (voting k).
--   voters     how many blocks vote; votes: how many of them have the vector v
--   majority   the vector of most voters, the first in preference order where several are equal
--   Most       that v is the vector of most voters, said without the table: majority-most of proofs/Majority.antt
--   reading_of  the reading
use Rattle.std.specs.Prelude.{ℕ, ◌<◌, ◌≡◌, ◌⊎◌, Bool, ◌&&◌}
use Rattle.base.specs.Tests.{one}
use Rattle.base.specs.Sum.{sum_to}
use Rattle.base.specs.Greatest.{most_to}
use Rattle.order.specs.declared.Vector.{Vector}
use Rattle.order.specs.Vectors.{Precedes, same?, vector_count}
use Rattle.order.specs.Preference.{preferred}
use Rattle.reading.specs.declared.Reading.{Reading}

unfoldable pub voters : (ℕ → Bool) → ℕ → ℕ
voters voting n = sum_to (λ k. one (voting k)) n

module _ (voting : ℕ → Bool) (has : ℕ → Vector) (n : ℕ) where
  unfoldable pub votes : Vector → ℕ
  votes v = voters (λ k. voting k && same? (has k) v) n

  unfoldable pub majority : Vector
  majority = preferred (most_to (λ k. votes (preferred k)) vector_count)

  -- any other vector has fewer voters, or as many and is preceded by v
  pub record Most (v : Vector) : Type 0 where
    pub most : (u : Vector) → (u ≡ v → ⊥) → (votes u < votes v) ⊎ ((votes u ≡ votes v) × Precedes v u)

  unfoldable pub reading_of : Reading
  reading_of = let v = majority in record { dy = v.dy; dx = v.dx; votes = votes v }
