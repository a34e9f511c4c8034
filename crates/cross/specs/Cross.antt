-- 01, "The four searches", search 4: "document 000, steps 1 to 8, its i and m for dy, its j and n for dx. The threshold T is on the sum: distortion of
-- (0,0) below T ends the search. In each step the centre comes first, then the points in that document's order; only strictly smaller replaces."
-- Document 000 is Ghanbari's paper on the cross search. Its steps, (m, n) being the minimum so far:
--   1  a distortion of (0,0) below T ends the search
--   2  (m, n) is (0,0), and p is w / 2
--   3  the centre (i, j) moves to (m, n)
--   4  (m, n) is the minimum of (i, j) and the ends of a cross (X): (i-p, j-p), (i-p, j+p), (i+p, j-p), (i+p, j+p)
--   5  where p is 1, step 6 is next; else p is halved, and step 3 is next
--   6  where (m, n) is (i, j), (i-1, j-1) or (i+1, j+1), step 7 is the last, else step 8
--   7  the minimum of (m, n) and the ends of a cross (+): (m-1, n), (m, n-1), (m+1, n), (m, n+1)
--   8  the minimum of (m, n) and the ends of a cross (X): (m-1, n-1), (m-1, n+1), (m+1, n-1), (m+1, n+1)
-- The centre is not measured again. Here these are:
--   diagonal_cross   steps 4 and 8: the ends of a cross (X), at step size 1; plus_cross: step 7: the ends of a cross (+)
--   pass            steps 3 and 4: the best by now is the centre, and the ends of a cross (X) at step size p are tried
--   all_passes       step 5: passes, p halved after each, until p is 1
--   on_diagonal      step 6: the minimum is the centre, or the point above and left of it, or the one below and right
--   ended           steps 7 and 8
--   finished        the pass at p = 1, then steps 6 to 8
--   cross           the search: steps 1 and 2, p from w / 2 on, then the rest
-- That it ends at a candidate with that vector's own distortion, and its count: proofs/Cross.antt. That its passes are log2 w - 1: proofs/Passes.antt.
use Rattle.std.specs.Prelude.{ℕ, zero, suc, ◌/◌, Bool, cond, List, [], ◌∷◌, ltb, leb, pos, negsuc}
use Rattle.order.specs.declared.Vector.{Vector}
use Rattle.order.specs.Vectors.{vec}
use Rattle.search.specs.Target.{Target}
use Rattle.probe.specs.Probe.{origin, Seen, probe, at_origin, around, widened, is_in}

-- (i-1,j-1), (i-1,j+1), (i+1,j-1), (i+1,j+1)
unfoldable pub diagonal_cross : List Vector
diagonal_cross = vec (negsuc 0) (negsuc 0) ∷ vec (negsuc 0) (pos 1) ∷ vec (pos 1) (negsuc 0) ∷ vec (pos 1) (pos 1) ∷ []

-- (m-1,n), (m,n-1), (m+1,n), (m,n+1)
unfoldable pub plus_cross : List Vector
plus_cross = vec (negsuc 0) (pos 0) ∷ vec (pos 0) (negsuc 0) ∷ vec (pos 1) (pos 0) ∷ vec (pos 0) (pos 1) ∷ []

unfoldable pub pass : Target → ℕ → Seen → Seen
pass t p s = probe t s (around s.best (widened p diagonal_cross))

-- n is at least the number of passes
unfoldable pub all_passes : ℕ → Target → ℕ → Seen → Seen
all_passes zero t p s = s
all_passes (suc n) t p s = cond (leb p 1) s (all_passes n t (p / 2) (pass t p s))

-- (i,j), (i-1,j-1), (i+1,j+1)
unfoldable pub diagonal : List Vector
diagonal = origin ∷ vec (negsuc 0) (negsuc 0) ∷ vec (pos 1) (pos 1) ∷ []

unfoldable pub on_diagonal : Vector → Vector → Bool
on_diagonal i m = is_in m (around i diagonal)

unfoldable pub ended : Target → Bool → Seen → Seen
ended t k s = probe t s (around s.best (cond k plus_cross diagonal_cross))

unfoldable pub finished : Target → Seen → Seen
finished t s = ended t (on_diagonal s.best (pass t 1 s).best) (pass t 1 s)

unfoldable pub cross : Target → ℕ → ℕ → Seen
cross t limit w = cond (ltb (t.cost origin) limit) (at_origin t) (finished t (all_passes w t (w / 2) (at_origin t)))
