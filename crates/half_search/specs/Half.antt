-- 02, request 6, "Half a pel": "A call of its own takes a single-block search's inputs, refuses as that does and tries the eight half-pel neighbours of its
-- vector by the same measure." Vectors here are in half pels but for the search's own.
--   neighbours       the offsets: the centre, (0,0), then the eight in preference order; neighbour k: the k-th of them
--   in_half_pels           a search's vector with an offset, in half pels; doubled: a whole number of pels in half pels
--   half_at           where the older block begins, in half pels
--   Tried, tried     "A neighbour counts exactly if all pels it needs are inside the older frame, whatever the window", as a relation and as a test
--   half_distortion   the newer block at (y, x) against the older block at a vector in half pels, by the pair's measure
--   HalfBest         "Least distortion wins, the centre first on ties, then the offset earlier in preference order", as a relation
--   winner           the place among the neighbours of the first of least distortion
--   HalfAnswer       what an accepted answer is: the one offset that HalfBest allows, its vector and its distortion, and none of the tried ones is lower
--   search_half       "The answer is the search's result, then the winner's vector, in half pels, and its distortion"
-- That every accepted answer is a HalfAnswer: proofs/Answer.antt. That the centre's distortion is the search's: proofs/Best.antt.
use Rattle.std.specs.Prelude.{ℕ, ◌*◌, ◌≤◌, ◌≡◌, Bool, cond, ◌&&◌, List, [], ◌∷◌, eqb, ℤ, pos, negsuc, ◌+ℤ◌, get_or}
use Rattle.base.specs.Least.{least_of}
use Rattle.base.specs.Picks.{pick}
use Rattle.signed.specs.Int.{up}
use Rattle.signed.specs.Values.{doubled}
use Rattle.order.specs.declared.Vector.{Vector}
use Rattle.order.specs.Vectors.{vec, Within, Precedes}
use Rattle.frame.specs.declared.Setting.{Setting}
use Rattle.frame.specs.Pictures.{Pair, pair_of}
use Rattle.refusals.specs.declared.Request.{Request}
use Rattle.refusals.specs.Refusals.{setting_of}
use Rattle.distortion.specs.Blocks.{distortion_by, newer_block, measure_in}
use Rattle.half_pel.specs.HalfPel.{HalfInside, half_inside, half_block}
use Rattle.search.specs.declared.SearchResult.{SearchResult}
use Rattle.search.specs.SearchResult.{vector_in}
use Rattle.block.specs.Block.{search_block}
use Rattle.half_search.specs.declared.HalfResult.{HalfResult}

abbrev pub centre : Vector
centre = vec (pos 0) (pos 0)

abbrev pub neighbours : List Vector
neighbours =
    centre
    ∷ vec (negsuc 0) (pos 0) ∷ vec (pos 0) (negsuc 0) ∷ vec (pos 0) (pos 1) ∷ vec (pos 1) (pos 0)
    ∷ vec (negsuc 0) (negsuc 0) ∷ vec (negsuc 0) (pos 1) ∷ vec (pos 1) (negsuc 0) ∷ vec (pos 1) (pos 1)
    ∷ []

abbrev pub neighbour_count : ℕ
neighbour_count = 9

abbrev pub neighbour : ℕ → Vector
neighbour k = get_or neighbours k centre

abbrev pub in_half_pels : Vector → Vector → Vector
in_half_pels v o = vec (doubled v.dy +ℤ o.dy) (doubled v.dx +ℤ o.dx)

abbrev pub half_at : ℕ → ℤ → ℤ
half_at y d = pos (2 * y) +ℤ d

pub record Tried (s : Setting) (y x : ℕ) (h : Vector) : Type 0 where
  pub down : HalfInside (half_at y h.dy) s.n s.height
  pub across : HalfInside (half_at x h.dx) s.n s.width

unfoldable pub tried : Setting → ℕ → ℕ → Vector → Bool
tried s y x h = half_inside (half_at y h.dy) s.n s.height && half_inside (half_at x h.dx) s.n s.width

unfoldable pub half_distortion : Pair → ℕ → ℕ → Vector → ℕ
half_distortion p y x h =
    distortion_by (measure_in p) p.setting.n (newer_block p y x)
    (half_block p.older p.setting.width (up (half_at y h.dy)) (up (half_at x h.dx)))

-- the offset o wins at the vector v that a search found
pub record HalfBest (p : Pair) (y x : ℕ) (v o : Vector) : Type 0 where
  pub near : Within 1 o
  pub tried : Tried p.setting y x (in_half_pels v o)
  pub least : (u : Vector) → Within 1 u → Tried p.setting y x (in_half_pels v u)
      → half_distortion p y x (in_half_pels v o) ≤ half_distortion p y x (in_half_pels v u)
  pub first : (u : Vector) → Within 1 u → Tried p.setting y x (in_half_pels v u)
      → half_distortion p y x (in_half_pels v u) ≡ half_distortion p y x (in_half_pels v o) → (u ≡ o → ⊥) → Precedes o u

pub record HalfAnswer (p : Pair) (y x : ℕ) (r : HalfResult) : Type 0 where
  pub offset : Vector
  pub best : HalfBest p y x (vector_in r.found) offset
  pub vector : vec r.dy r.dx ≡ in_half_pels (vector_in r.found) offset
  pub reported : r.distortion ≡ half_distortion p y x (vec r.dy r.dx)
  -- "It is stated that none of the tried ones is lower"
  pub none_lower : (u : Vector) → Within 1 u → Tried p.setting y x (in_half_pels (vector_in r.found) u)
      → r.distortion ≤ half_distortion p y x (in_half_pels (vector_in r.found) u)
  pub no_higher : r.distortion ≤ r.found.distortion
  pub range : Within 33 (vec r.dy r.dx)

-- the neighbours of v by their places: which count, and their distortions
module _ (p : Pair) (y x : ℕ) (v : Vector) where
  abbrev pub counts : ℕ → Bool
  counts k = tried p.setting y x (in_half_pels v (neighbour k))

  abbrev pub costs : ℕ → ℕ
  costs k = half_distortion p y x (in_half_pels v (neighbour k))

  unfoldable pub winner : ℕ
  winner = least_of costs (pick counts neighbour_count)

abbrev pub half_result : SearchResult → Vector → ℕ → HalfResult
half_result f h d = record { found = f; dy = h.dy; dx = h.dx; distortion = d }

-- a search's result, refined
unfoldable pub refined : Pair → ℕ → ℕ → SearchResult → HalfResult
refined p y x f =
    let h = in_half_pels (vector_in f) (neighbour (winner p y x (vector_in f))) in
    half_result f h (half_distortion p y x h)

unfoldable pub search_half : List ℕ → List ℕ → Request → ℕ → ℕ → HalfResult
search_half older newer q y x =
    let f = search_block older newer q y x in
    cond (eqb f.refusal 0) (refined (pair_of older newer (setting_of q)) y x f) (half_result f centre 0)
