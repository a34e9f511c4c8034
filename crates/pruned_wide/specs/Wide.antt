-- 02, request 1: by squares "the distance at m is then the sum over squares of the squared difference of pel sums". The distances of all candidates at
-- once, from the sums of `boxes`.
--   squared      the squared difference of two sums
--   row_squares   the squared differences of so many squares in a row, m places apart, summed
--   squares_of    the distance of k × k squares from the place `at` on, squares_at: that of the candidate at place t
--   Wide         the squares of a block do, and distances have 32 bits
use Rattle.std.specs.Prelude.{ℕ, ◌+◌, ◌*◌, ◌/◌, ◌≤◌, ◌<◌, List, get_or}
use Rattle.base.specs.Sum.{sum_to}
use Rattle.measures.specs.Measures.{measure_of}
use Rattle.boxes.specs.Boxes.{level_at, own_at}
use Rattle.boxes.specs.Runs.{Inside}
use Rattle.boxes.specs.declared.Level.{Level}

abbrev pub squared : ℕ → ℕ → ℕ
squared newer older = (measure_of 2).diff newer older

abbrev pub row_squares : List ℕ → ℕ → ℕ → ℕ → ℕ → ℕ
row_squares boxes at own m count = sum_to (λ q. squared (get_or boxes (own + m * q) 0) (get_or boxes (at + m * q) 0)) count

-- rows of older squares are `below` places apart, those of newer ones `under`
abbrev pub squares_of : List ℕ → ℕ → ℕ → ℕ → ℕ → ℕ → ℕ → ℕ → ℕ
squares_of boxes at below own under m k t = sum_to (λ p. row_squares boxes (at + p * below + t) (own + p * under) m k) k

abbrev pub squares_at : List ℕ → ℕ → ℕ → ℕ → ℕ
squares_at boxes n m t = squares_of boxes (level_at n m) ((n + 32) * m) (own_at n m) (n * m) m (n / m) t

pub record Wide (boxes : List ℕ) (l : Level) (span : ℕ) : Type 0 where
  pub rows : (p : ℕ) → p < l.k → Inside boxes (l.at + p * (l.pitch * l.m)) (l.own + p * (l.n * l.m)) l.m l.k span
  pub wide : (t : ℕ) → t < span → squares_of boxes l.at (l.pitch * l.m) l.own (l.n * l.m) l.m l.k t ≤ 4294967295
  pub small : (l.pitch * l.m ≤ 2048) × (l.n * l.m ≤ 2048)
