-- 01, "The four searches", search 3: "w exactly 7, document 001. Its patterns are constant tables of offsets: centre, then the eight around it, row by
-- row, at distance 2. Only a strictly smaller distortion replaces. Steps 2 and 3 measure the pattern points that were not in the pattern just
-- before; a centre that stays leads to step 4, the eight at distance 1, again row by row. Step 3 always leads to step 4." Document 001 is Po and Ma's
-- paper on the four-step search; in its step 1 the pattern stands around (0,0), in steps 2 and 3 around the best by now.
--   square                 the nine offsets; ring: the eight at distance 1
--   moved                  the pattern around the best by now, without the points that were in the pattern just before
--   step1, step23, step4   the steps: step23 after a pattern around a centre
--   from2, from3           from step 2 or step 3 on, after a pattern around a centre
--   four_step               the search
-- That it ends at a candidate with that vector's own distortion, its counts, and that it looks at nothing outside window 7 are proved:
-- proofs/FourStep.antt, proofs/Unclipped.antt.
use Rattle.std.specs.Prelude.{cond, List, [], ◌∷◌, pos, negsuc}
use Rattle.order.specs.declared.Vector.{Vector}
use Rattle.order.specs.Vectors.{vec, same?}
use Rattle.search.specs.Target.{Target}
use Rattle.probe.specs.Probe.{origin, Seen, probe, at_origin, around, fresh}

-- `negsuc 1` is -2
unfoldable pub square : List Vector
square =
    vec (pos 0) (pos 0)
    ∷ vec (negsuc 1) (negsuc 1) ∷ vec (negsuc 1) (pos 0) ∷ vec (negsuc 1) (pos 2)
    ∷ vec (pos 0) (negsuc 1) ∷ vec (pos 0) (pos 2)
    ∷ vec (pos 2) (negsuc 1) ∷ vec (pos 2) (pos 0) ∷ vec (pos 2) (pos 2) ∷ []

unfoldable pub ring : List Vector
ring =
    vec (negsuc 0) (negsuc 0) ∷ vec (negsuc 0) (pos 0) ∷ vec (negsuc 0) (pos 1)
    ∷ vec (pos 0) (negsuc 0) ∷ vec (pos 0) (pos 1)
    ∷ vec (pos 1) (negsuc 0) ∷ vec (pos 1) (pos 0) ∷ vec (pos 1) (pos 1) ∷ []

unfoldable pub moved : Target → List Vector → Seen → Seen
moved t before s = probe t s (fresh before (around s.best square))

-- the nine points around (0,0), whose centre is measured first
unfoldable pub step1 : Target → Seen
step1 t = moved t (origin ∷ []) (at_origin t)

unfoldable pub step23 : Target → Vector → Seen → Seen
step23 t centre s = moved t (around centre square) s

unfoldable pub step4 : Target → Seen → Seen
step4 t s = probe t s (around s.best ring)

unfoldable pub from3 : Target → Vector → Seen → Seen
from3 t centre s = cond (same? s.best centre) (step4 t s) (step4 t (step23 t centre s))

unfoldable pub from2 : Target → Vector → Seen → Seen
from2 t centre s = cond (same? s.best centre) (step4 t s) (from3 t s.best (step23 t centre s))

unfoldable pub four_step : Target → Seen
four_step t = from2 t origin (step1 t)
