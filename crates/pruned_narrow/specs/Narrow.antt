-- 01, "The four searches", search 2: "Cut a block into m × m squares; its distance at m is the sum over squares of the absolute difference of
-- pel sums." The distances of all candidates at once, from the sums of `boxes`: first what each older square has more than the newer one, summed; then,
-- by the sums of the whole blocks, also what the newer ones have more.
--   row_sum       the sums of so many squares in a row, m places apart; row_more: what they have more than the newer ones
--   turned       from what the older squares have more, x, and the sums of both blocks, to the distance
--   distance_of   the distance of k × k squares from the place `at` on, distance_at: that of the candidate at place t
--   whole_at      the same of whole blocks of 32, by four boxes of 16
--   number_of     the distance at m of the candidate at place t, at every m
--   Squared      the squares of a block do, they add up to its own sum, and sums and distances have 16 bits
use Rattle.std.specs.Prelude.{ℕ, ◌+◌, ◌-◌, ◌*◌, ◌/◌, ◌≤◌, ◌<◌, ◌≡◌, cond, List, eqb, length, get_or}
use Rattle.base.specs.Sum.{sum_to, sum_over}
use Rattle.signed.specs.Values.{abs_diff}
use Rattle.boxes.specs.Boxes.{level_at, own_at, whole_of}
use Rattle.boxes.specs.Runs.{Inside}
use Rattle.boxes.specs.declared.Level.{Level}

abbrev pub row_sum : List ℕ → ℕ → ℕ → ℕ → ℕ
row_sum boxes at m count = sum_to (λ q. get_or boxes (at + m * q) 0) count

abbrev pub row_more : List ℕ → ℕ → ℕ → ℕ → ℕ → ℕ
row_more boxes at own m count = sum_to (λ q. get_or boxes (at + m * q) 0 - get_or boxes (own + m * q) 0) count

abbrev pub turned : ℕ → ℕ → ℕ → ℕ
turned x s v = x + (v - (s - x))

-- rows of older squares are `below` places apart, those of newer ones `under`
abbrev pub distance_of : List ℕ → ℕ → ℕ → ℕ → ℕ → ℕ → ℕ → ℕ → ℕ
distance_of boxes at below own under m k t =
    sum_over k k (λ p q. abs_diff (get_or boxes (own + p * under + m * q) 0) (get_or boxes (at + p * below + t + m * q) 0))

abbrev pub distance_at : List ℕ → ℕ → ℕ → ℕ → ℕ
distance_at boxes n m t = distance_of boxes (level_at n m) ((n + 32) * m) (own_at n m) (n * m) m (n / m) t

abbrev pub whole_at : List ℕ → ℕ → ℕ
whole_at boxes t = abs_diff (whole_of boxes (own_at 32 16) 512) (whole_of boxes (level_at 32 16 + t) 1024)

unfoldable pub number_of : List ℕ → ℕ → ℕ → ℕ → ℕ
number_of boxes n m t = cond (eqb m 32) (whole_at boxes t) (distance_at boxes n m t)

pub record Squared (boxes : List ℕ) (l : Level) (k at own : ℕ) (w : Level) (size : ℕ) : Type 0 where
  pub rows : (p : ℕ) → p < k → Inside boxes (l.at + at + p * (l.pitch * l.m)) (l.own + own + p * (l.n * l.m)) l.m k size
  pub older_room : w.at + at + size ≤ length boxes
  pub newer_room : w.own + own < length boxes
  pub small : l.at + at + (k + 1) * (l.pitch * l.m) + (l.own + own) + (k + 1) * (l.n * l.m) ≤ 1000000
  pub older_sum : (t : ℕ) → t < size
      → sum_to (λ p. row_sum boxes (l.at + at + p * (l.pitch * l.m) + t) l.m k) k ≡ get_or boxes (w.at + at + t) 0
  pub newer_sum : sum_to (λ p. row_sum boxes (l.own + own + p * (l.n * l.m)) l.m k) k ≡ get_or boxes (w.own + own) 0
  pub older_small : (t : ℕ) → t < size → get_or boxes (w.at + at + t) 0 ≤ 65535
  pub narrow : (t : ℕ) → t < size → distance_of boxes (l.at + at) (l.pitch * l.m) (l.own + own) (l.n * l.m) l.m k t ≤ 65535
