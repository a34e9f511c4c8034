-- The loop over the neighbours: after k of them the winner by now is the first of least distortion among those that count.
--   Leading        that; leading_first: of the centre alone; leading_next: with one neighbour more
--   offset_place   a half-pel place, with 1 added, as the code reckons it
--   try_is         what the code tries at place k is what the definition says of neighbour k; try_above, try_beside, try_less, try_kept: by what the code learns
--   refined_is     the winner of all nine is the answer's
use Prim.Native.Nat.{ℕ, zero, suc, ◌+◌, ◌-◌, ◌*◌, ◌/◌, ◌%◌, ◌≤◌, ◌<◌}
use mathlib.Core.Path.{◌≡◌, refl, sym, ap, ap₂, ◌∙◌}
use mathlib.Core.Bool.{Bool, true, false, cond}
use mathlib.Core.List.{List, [], ◌∷◌}
use mathlib.Core.Logic.{⊎_elim}
use native.Mathlib.Nat.{zero-add, eq-or-lt_of_le}
use native.Mathlib.Omega.{arith}
use borrow.Author.Tests.{leb-true, lt-ltb, le-ltb}
use lib.Dec.{ltb}
use lib.IntN.{ℤ, pos, ◌+ℤ◌}
use lib.ListN.{length, length-append}
use Rattle.base.specs.Tests.{true_T}
use Rattle.base.specs.Least.{least_of, least_from, least_of_more, least_of_mem}
use Rattle.base.specs.Picks.{pick, pick_none, pick_yes, pick_no, picked}
use Rattle.base.specs.Sum.{sum_over_ext}
use Rattle.signed.specs.Int.{up, dn, sum, less, same}
use Rattle.signed.specs.Values.{unbias, doubled}
use Rattle.order.specs.declared.Vector.{Vector}
use Rattle.order.specs.Vectors.{vec}
use Rattle.frame.specs.declared.Setting.{Setting}
use Rattle.frame.specs.Pictures.{Pair, pair_of}
use Rattle.frame.specs.Candidates.{candidate_true}
use Rattle.measures.specs.Measures.{measure_of}
use Rattle.distortion.specs.Blocks.{block_at, distortion_by, UpTo}
use Rattle.half_pel.specs.HalfPel.{half_inside, half_block, half_rows}
use Rattle.half_pel.proofs.Values.{half_stored, even_block}
use Rattle.search.specs.declared.SearchResult.{SearchResult}
use Rattle.search.specs.SearchResult.{vector_in}
use Rattle.search.specs.Target.{Past, candidate_past}
use Rattle.half_search.specs.declared.Offset.{Offset}
use Rattle.half_search.specs.declared.Winner.{Winner}
use Rattle.half_search.specs.Half.{neighbour, neighbour_count, in_half_pels, half_at, tried, half_distortion, counts, costs, winner, half_result, refined}
use Rattle.half_search.specs.Steps.{offset_of, cost_at, try_at, Refining}

pub record Leading (f : ℕ → ℕ) (c : ℕ → Bool) (k : ℕ) (b : Winner) : Type 0 where
  pub some : 0 < length (pick c k)
  pub is : b.place ≡ least_of f (pick c k)
  pub own : b.least ≡ f b.place

module _ (f : ℕ → ℕ) (c : ℕ → Bool) where
  pub leading_first : (d : ℕ) → c 0 ≡ true → d ≡ f 0 → Leading f c 1 (record { place = 0; least = d })
  unfolding least_of least_from
  leading_first d e q =
      let one : pick c 1 ≡ 0 ∷ [] = pick_yes c 0 e ∙ rw (pick_none c) in
      record { some = rw one (omega arith); is = rw one; own = q }

  pub leading_next : (k : ℕ) (b : Winner) → Leading f c k b
      → Leading f c (k + 1) (cond (c k) (cond (ltb (f k) b.least) (record { place = k; least = f k }) b) b)
  leading_next k b l = go (c k) refl
    where
      more : (e : c k ≡ true) → least_of f (pick c (k + 1)) ≡ cond (ltb (f k) b.least) k b.place
      more e = ap (least_of f) (pick_yes c k e) ∙ least_of_more f (pick c k) k l.some ∙ rw (l.own, l.is)

      longer : c k ≡ true → 0 < length (pick c (k + 1))
      longer e = rw (pick_yes c k e) (omega (arith, length-append (pick c k) (k ∷ [])))

      better : (t : Bool) → ltb (f k) b.least ≡ t → c k ≡ true → Leading f c (k + 1) (cond t (record { place = k; least = f k }) b)
      better true q e = record { some = longer e; is = sym (more e ∙ rw q); own = refl }
      better false q e = record { some = longer e; is = sym (more e ∙ rw q); own = l.own }

      go : (t : Bool) → c k ≡ t → Leading f c (k + 1) (cond t (cond (ltb (f k) b.least) (record { place = k; least = f k }) b) b)
      go true e = better (ltb (f k) b.least) refl e
      go false e = record { some = rw (pick_no c k e) l.some; is = l.is ∙ ap (least_of f) (sym (pick_no c k e)); own = l.own }

-- row r of the older block, which is y + d, and u half pels less 1
pub offset_place : (y r u : ℕ) (d : ℤ) → r + dn d ≡ y + up d → unbias 1 (2 * r + u) ≡ half_at y (doubled d +ℤ unbias 1 u)
unfolding unbias
offset_place y r u d e =
    same _ _
    (omega (
      arith,
      less (pos (2 * r + u)) (pos 1),
      less (pos u) (pos 1),
      sum d d,
      sum (d +ℤ d) (unbias 1 u),
      sum (pos (2 * y)) (d +ℤ d +ℤ unbias 1 u),
    ))

-- such a place, with the 1 taken off
pub place_at : (p : ℕ) → 0 < p → unbias 1 p ≡ pos (p - 1)
unfolding unbias
place_at p h = same _ _ (omega (arith, less (pos p) (pos 1)))

place_up : (p : ℕ) → p - 1 ≡ up (unbias 1 p)
unfolding unbias
place_up p = omega (arith, less (pos p) (pos 1))

-- a place that has all that it needs is one, and needs that much
pub place_inside : (p n side : ℕ) → half_inside (unbias 1 p) n side ≡ true → (1 ≤ p) × ((p - 1) / 2 + (n + (p - 1) % 2) ≤ side)
unfolding unbias
place_inside zero n side e = absurd (true_T false e)
place_inside (suc z) n side e = (omega arith, leb-true _ side (rw (place_at (suc z) (omega arith)) at e))

-- one neighbour tried, from what the code learns of it
module _ (older block : List ℕ) (s : Setting) (p q k : ℕ) (b : Winner) where
  abbrev above : Bool
  above = half_inside (unbias 1 p) s.n s.height

  abbrev beside : Bool
  beside = half_inside (unbias 1 q) s.n s.width

  pub try_above : above ≡ false → b ≡ try_at older block s p q k b
  unfolding try_at
  try_above e = rw e refl

  pub try_beside : above ≡ true → beside ≡ false → b ≡ try_at older block s p q k b
  unfolding try_at
  try_beside e f = rw (e, f) refl

  module _ (e : above ≡ true) (f : beside ≡ true) (d : ℕ) (u : UpTo b.least (cost_at older block s p q) d) where
    pub try_less : d < b.least → record { place = k; least = d } ≡ try_at older block s p q k b
    unfolding try_at
    try_less l =
        let q = u.within (omega arith) in
        rw (e, f, lt-ltb _ b.least (rw q at l)) (ap (λ (n : ℕ). record { place = k; least = n }) q)

    pub try_kept : b.least ≤ d → b ≡ try_at older block s p q k b
    unfolding try_at
    try_kept l = rw (e, f, le-ltb _ b.least least) refl
      where
        least : b.least ≤ cost_at older block s p q
        least = ⊎_elim (λ (h : b.least ≡ d). omega (arith, u.within (omega arith))) (λ (h : b.least < d). omega (arith, u.over h)) (eq-or-lt_of_le l)

module _ (older newer : List ℕ) (s : Setting) (y x : ℕ) (v : Vector) (row column : ℕ) (down : row + dn v.dy ≡ y + up v.dy)
    (across : column + dn v.dx ≡ x + up v.dx) (zeros : List ℕ) (long : length zeros ≡ 1024) (small : s.n ≤ 32) where
  abbrev block : List ℕ
  block = half_rows newer s.width (2 * y) (2 * x) zeros s.n

  module _ (k : ℕ) (o : Offset) (e : offset_of o ≡ neighbour k) where
    row-is : unbias 1 (2 * row + o.down) ≡ half_at y (in_half_pels v (neighbour k)).dy
    row-is = offset_place y row o.down v.dy down ∙ ap (λ (u : Vector). half_at y (in_half_pels v u).dy) e

    column_is : unbias 1 (2 * column + o.across) ≡ half_at x (in_half_pels v (neighbour k)).dx
    column_is = offset_place x column o.across v.dx across ∙ ap (λ (u : Vector). half_at x (in_half_pels v u).dx) e

    cost_is : cost_at older block s (2 * row + o.down) (2 * column + o.across) ≡ costs (pair_of older newer s) y x v k
    unfolding half_distortion distortion_by
    cost_is =
        rw (place_up (2 * row + o.down), place_up (2 * column + o.across), row-is, column_is)
        (sum_over_ext s.n s.n _ _
        (λ i j hi hj. ap (λ (a : ℕ). (measure_of s.measure).diff a (older-at i j)) (stored i j hi hj)))
      where
        older-at : ℕ → ℕ → ℕ
        older-at = half_block older s.width (up (half_at y (in_half_pels v (neighbour k)).dy)) (up (half_at x (in_half_pels v (neighbour k)).dx))

        stored : (i j : ℕ) → i < s.n → j < s.n → block_at block 32 0 0 i j ≡ block_at newer s.width y x i j
        stored i j hi hj =
            rw (zero-add i, zero-add j)
            (half_stored newer s.width (2 * y) (2 * x) zeros s.n i j long small hi hj ∙ even_block newer s.width y x i j)

    pub try_is : (b : Winner) → try_at older block s (2 * row + o.down) (2 * column + o.across) k b
        ≡ (let p = pair_of older newer s in
        cond (counts p y x v k) (cond (ltb (costs p y x v k) b.least) (record { place = k; least = costs p y x v k }) b) b)
    unfolding try_at tried
    try_is b = rw (cost_is, row-is, column_is)

-- ---- at the end

pub leading_few : {f : ℕ → ℕ} {c : ℕ → Bool} {k : ℕ} {b : Winner} → Leading f c k b → b.place < k
leading_few {f} {c} {k} l = rw l.is (picked c k (least_of_mem f (pick c k) l.some)).0

pub refined_is : (p : Pair) (y x : ℕ) (f : SearchResult) (b : Winner) (o : Offset) (dy dx : ℤ)
    → Leading (costs p y x (vector_in f)) (counts p y x (vector_in f)) neighbour_count b → offset_of o ≡ neighbour b.place
    → dy ≡ doubled f.dy +ℤ unbias 1 o.down → dx ≡ doubled f.dx +ℤ unbias 1 o.across
    → half_result f (vec dy dx) b.least ≡ refined p y x f
unfolding refined winner
refined_is p y x f b o dy dx l e down across =
    let v = vector_in f in
    let h : vec dy dx ≡ in_half_pels v (neighbour b.place) = ap₂ vec down across ∙ ap (in_half_pels v) e in
    ap₂ (half_result f) h l.own
    ∙ ap (λ (k : ℕ). half_result f (in_half_pels v (neighbour k)) (half_distortion p y x (in_half_pels v (neighbour k)))) l.is

-- what the older block's row and column are, of a result that may be refined
pub past_of : (older newer : List ℕ) (s : Setting) (y x : ℕ) (f : SearchResult) → Refining older newer s y x f → Past f.dy y 0 × Past f.dx x 0
past_of older newer s y x f r =
    candidate_past older newer (record { setting = s; w = 16; y = y; x = x }) (vector_in f)
    (record { placed = r.placed; window = omega arith }) (candidate_true s 16 y x (vector_in f) r.own.chosen)
