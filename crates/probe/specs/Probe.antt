-- 01, "The four searches": how searches 3 and 4 try points. "In 3 and 4 a point that is no candidate is neither measured nor counted.
-- A point met again in a later step is measured and counted again; the centre is not." "Only a strictly smaller distortion replaces."
--   origin, plus    (0,0), and the sum of two vectors
--   Seen            the best vector by now, its distortion, the number measured
--   probe_point      one point is tried, and counted where it is a candidate; probe: points, in order; at_origin: (0,0) alone
--   around          a pattern's points from a centre: its offsets, each added to the centre; widened: the offsets times a step size p
--   fresh           the points that are not among those of a list: is_in
--   OwnDistortion   the best is a candidate, and the distortion is its own
--   Alike           two targets that a search cannot tell apart which looks at no point outside window n
use Rattle.std.specs.Prelude.{ℕ, ◌+◌, ◌≡◌, Bool, false, cond, ◌||◌, List, [], ◌∷◌, T, ltb, pos, ◌+ℤ◌, ◌*ℤ◌}
use Rattle.order.specs.declared.Vector.{Vector}
use Rattle.order.specs.Vectors.{vec, Within, same?}
use Rattle.search.specs.Target.{Target}

abbrev pub origin : Vector
origin = vec (pos 0) (pos 0)

abbrev pub plus : Vector → Vector → Vector
plus c o = vec (c.dy +ℤ o.dy) (c.dx +ℤ o.dx)

pub record Seen : Type 0 where
  pub best : Vector
  pub least : ℕ
  pub count : ℕ

abbrev pub seen : Vector → ℕ → ℕ → Seen
seen v d n = record { best = v; least = d; count = n }

-- v is measured as d, and counted: only strictly smaller replaces
unfoldable pub count_point : Seen → Vector → ℕ → Seen
count_point s v d = cond (ltb d s.least) (seen v d (s.count + 1)) (seen s.best s.least (s.count + 1))

-- a point that is no candidate is neither measured nor counted
unfoldable pub probe_point : Target → Seen → Vector → Seen
probe_point t s v = cond (t.candidate v) (count_point s v (t.cost v)) s

unfoldable pub probe : Target → Seen → List Vector → Seen
probe t s [] = s
probe t s (v ∷ vs) = probe t (probe_point t s v) vs

-- (0,0) always is a candidate, and is measured before anything else
unfoldable pub at_origin : Target → Seen
at_origin t = seen origin (t.cost origin) 1

unfoldable pub around : Vector → List Vector → List Vector
around c [] = []
around c (o ∷ os) = plus c o ∷ around c os

unfoldable pub widened : ℕ → List Vector → List Vector
widened p [] = []
widened p (o ∷ os) = vec (pos p *ℤ o.dy) (pos p *ℤ o.dx) ∷ widened p os

unfoldable pub is_in : Vector → List Vector → Bool
is_in v [] = false
is_in v (u ∷ us) = same? v u || is_in v us

unfoldable pub fresh : List Vector → List Vector → List Vector
fresh before [] = []
fresh before (v ∷ vs) = cond (is_in v before) (fresh before vs) (v ∷ fresh before vs)

-- what every search owes
pub record OwnDistortion (t : Target) (s : Seen) : Type 0 where
  pub chosen : T (t.candidate s.best)
  pub reported : s.least ≡ t.cost s.best

pub record Alike (n : ℕ) (t u : Target) : Type 0 where
  pub candidate : (v : Vector) → Within n v → t.candidate v ≡ u.candidate v
  pub cost : (v : Vector) → Within n v → t.cost v ≡ u.cost v
