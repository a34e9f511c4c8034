-- What looking says in the numbers that the code holds: a part is kept with 16 added, so adding an offset is a shift inside 0 ..= 32, and where
-- it leads outside there is no candidate.
use Prim.Native.Nat.{ℕ, ◌+◌, ◌≤◌, ◌<◌}
use mathlib.Core.Path.{◌≡◌, refl, sym, ap, ◌∙◌}
use mathlib.Core.Bool.{Bool, true, false, cond, ◌&&◌, ◌||◌}
use mathlib.Core.List.{List, [], ◌∷◌}
use native.Mathlib.Nat.{le_of_lt}
use native.Mathlib.Omega.{arith}
use native.Mathlib.Numerals.{add-one}
use borrow.Author.Tests.{lt-ltb, le-ltb, ne_eqb}
use lib.Dec.{T, leb, leb→le, eqb}
use lib.IntN.{ℤ, pos, nat_abs, ◌+ℤ◌, ◌*ℤ◌}
use lib.ListN.{length, get_or, drop, drop_of_length-le}
use lib.Seq.{drop-cons}
use Rattle.base.specs.Tests.{and_left, and_right, true_T}
use Rattle.std.specs.Prelude.{Some, None}
use Rattle.signed.specs.Int.{up, dn, parts, eq_z, eq_z_is}
use Rattle.signed.specs.Values.{bias, unbias, bias_unbias, unbias_is, shifted_by, point_is, point_out}
use Rattle.order.specs.declared.Vector.{Vector}
use Rattle.order.specs.Vectors.{vec, Within, same?, in_window}
use Rattle.frame.specs.Pictures.{Pair}
use Rattle.frame.specs.Candidates.{candidate, candidate_older}
use Rattle.distortion.specs.Blocks.{block_at, newer_block, measure_in, distortion_by}
use Rattle.search.specs.declared.MeasuredCandidate.TheVariants.{Distortion, OverCeiling, NotCandidate}
use Rattle.search.specs.Target.{Target, target, measure_candidate, measure_candidate_none, measure_candidate_some, measure_candidate_over, still_cost}
use Rattle.probe.specs.declared.BestSoFar.{BestSoFar}
use Rattle.probe.specs.Probe.{plus, Seen, seen, count_point, probe_point, probe, at_origin, around, widened, is_in, fresh}
use Rattle.base.specs.Lists.{Each, more}
use Rattle.probe.specs.BestSoFar.{point, seen_of, one_more, offset, pairs, Pattern, probe_new, Ongoing, Holds}
use Rattle.probe.proofs.Probe.{eqb_same, all?, all-within}

pub holds_by : {r : BestSoFar} {s t : Seen} {m n : ℕ} → Holds r s m → s ≡ t → m ≤ n → Holds r t n
holds_by h e l = record { is = h.is ∙ e; few = let f = h.few in omega arith }

-- the best so far may stay as it is
pub holds_same : {s : BestSoFar} {n : ℕ} {q : Seen} → Ongoing s n → seen_of s ≡ q
    → Holds s q (s.count + 1)
holds_same o e = record { is = e; few = omega arith }

-- or with one more counted
pub holds_more : {s r : BestSoFar} {q : Seen} → Ongoing s 1 → r ≡ one_more s → seen_of (one_more s) ≡ q
    → Holds r q (s.count + 1)
holds_more o e f = rw e (record { is = f; few = omega arith })

-- ---- (0,0): the older block stands where the newer one stands

pub at_origin_is : (p : Pair) (w y x d : ℕ) → d ≡ distortion_by (measure_in p) p.setting.n (newer_block p y x) (block_at p.older p.setting.width y x)
    → seen (point 16 16) d 1 ≡ at_origin (target p w y x)
unfolding at_origin unbias
at_origin_is p w y x d e = rw (still_cost p y x, e)

-- ---- one point is tried

module _ (t : Target) (s : Seen) (v : Vector) where
  probe_point_no : t.candidate v ≡ false → s ≡ probe_point t s v
  unfolding probe_point
  probe_point_no e = rw e

  pub probe_point_none : measure_candidate t s.least v ≡ NotCandidate → s ≡ probe_point t s v
  probe_point_none e = probe_point_no (measure_candidate_none t s.least v e)

  pub probe_point_less : (d : ℕ) → measure_candidate t s.least v ≡ Distortion d → d < s.least → seen v d (s.count + 1) ≡ probe_point t s v
  unfolding probe_point count_point
  probe_point_less d e h = let m = measure_candidate_some t s.least v d e in rw (m.0, ← m.1, lt-ltb d s.least h)

  probe_point_stays : t.candidate v ≡ true → s.least ≤ t.cost v → seen s.best s.least (s.count + 1) ≡ probe_point t s v
  unfolding probe_point count_point
  probe_point_stays e h = rw (e, le-ltb (t.cost v) s.least h)

  pub probe_point_more : (d : ℕ) → measure_candidate t s.least v ≡ Distortion d → s.least ≤ d → seen s.best s.least (s.count + 1) ≡ probe_point t s v
  probe_point_more d e h = let m = measure_candidate_some t s.least v d e in probe_point_stays m.0 (rw (← m.1) h)

  -- over the least so far it is not smaller
  pub probe_point_over : measure_candidate t s.least v ≡ OverCeiling → seen s.best s.least (s.count + 1) ≡ probe_point t s v
  probe_point_over e = let m = measure_candidate_over t s.least v e in probe_point_stays m.0 (le_of_lt m.1)

  -- ---- unless it is among those before

  module _ (before : List Vector) where
    pub new_in : is_in v before ≡ true → s ≡ probe_new t before s v
    unfolding probe_new
    new_in e = rw e

    pub new_out : is_in v before ≡ false → probe_point t s v ≡ probe_new t before s v
    unfolding probe_new
    new_out e = rw e

    -- where looking changes nothing, it does not matter
    new_same : s ≡ probe_point t s v → s ≡ probe_new t before s v
    unfolding probe_new
    new_same e = go (is_in v before)
      where
        go : (c : Bool) → s ≡ cond c s (probe_point t s v)
        go true = refl
        go false = e

    probe-new : (vs : List Vector) → probe t s (fresh before (v ∷ vs)) ≡ probe t (probe_new t before s v) (fresh before vs)
    unfolding probe_new fresh probe
    probe-new vs = go (is_in v before)
      where
        go : (c : Bool) → probe t s (cond c (fresh before vs) (v ∷ fresh before vs)) ≡ probe t (cond c s (probe_point t s v)) (fresh before vs)
        go true = refl
        go false = refl

-- outside window 16 there is no candidate of a window up to 16
module _ (p : Pair) (w y x : ℕ) (l : w ≤ 16) (before : List Vector) (s : Seen) (v : Vector) where
  far : (Within 16 v → ⊥) → s ≡ probe_new (target p w y x) before s v
  far n = new_same (target p w y x) s v before (probe_point_no (target p w y x) s v (go (candidate p.setting w y x v) refl))
    where
      go : (c : Bool) → candidate p.setting w y x v ≡ c → c ≡ false
      go true e =
          let k = (candidate_older p.setting w y x v (true_T _ e)).window in
          absurd (n (record { down = omega arith; across = omega arith }))
      go false e = refl

  pub far_down : 16 < nat_abs v.dy → s ≡ probe_new (target p w y x) before s v
  far_down h = far (λ k. omega arith)

  pub far_across : 16 < nat_abs v.dx → s ≡ probe_new (target p w y x) before s v
  far_across h = far (λ k. omega arith)

-- ---- a part moved by an offset

at_bias : (c : ℕ) → c ≤ 32 → (nat_abs (unbias 16 c) ≤ 16) × (bias 16 (unbias 16 c) ≡ c)
at_bias c h = (omega (arith, unbias_is 16 c, parts (unbias 16 c)), bias_unbias 16 c)

pub part_same : (y a : ℕ) → eqb y a ≡ eq_z (unbias 16 y) (unbias 16 a)
part_same y a =
    rw (eq_z_is (unbias 16 y) (unbias 16 a))
    (eqb_same y a (up (unbias 16 y) + dn (unbias 16 a)) (up (unbias 16 a) + dn (unbias 16 y))
    (λ q. omega (arith, unbias_is 16 y, unbias_is 16 a)) (λ q. omega (arith, unbias_is 16 y, unbias_is 16 a)))

module _ (c : ℕ) (d : ℤ) (h : c ≤ 32) where
  pub moved_at : (y : ℕ) → shifted_by c d 32 ≡ Some y → unbias 16 y ≡ unbias 16 c +ℤ d
  moved_at y e = let k = at_bias c h in point_is 16 (unbias 16 c) d k.0 y (ap (λ n. shifted_by n d 32) k.1 ∙ e)

  pub moved_out : shifted_by c d 32 ≡ None → 16 < nat_abs (unbias 16 c +ℤ d)
  moved_out e = let k = at_bias c h in point_out 16 (unbias 16 c) d k.0 (ap (λ n. shifted_by n d 32) k.1 ∙ e)

  pub from_at : (y a : ℕ) → shifted_by c d 32 ≡ Some a → eqb y a ≡ eq_z (unbias 16 y) (unbias 16 c +ℤ d)
  from_at y a e = rw (← (moved_at a e)) (part_same y a)

  pub from_out : (y : ℕ) → y ≤ 32 → shifted_by c d 32 ≡ None → false ≡ eq_z (unbias 16 y) (unbias 16 c +ℤ d)
  from_out y l e =
      rw (eq_z_is (unbias 16 y) (unbias 16 c +ℤ d))
      (sym (ne_eqb (up (unbias 16 y) + dn (unbias 16 c +ℤ d)) (up (unbias 16 c +ℤ d) + dn (unbias 16 y))
      (λ q. omega (arith, moved_out e, at_bias y l, parts (unbias 16 y), parts (unbias 16 c +ℤ d)))))

-- ---- a table's pairs, one at a time

pairs_more : (l : List (List ℤ)) (i : ℕ) → i < length l → pairs (drop i l) ≡ offset (get_or l i []) ∷ pairs (drop (i + 1) l)
unfolding pairs
pairs_more l i h = rw (drop-cons l i [] h, add-one)

pairs_none : (l : List (List ℤ)) (i : ℕ) → length l ≤ i → pairs (drop i l) ≡ []
unfolding pairs
pairs_none l i h = rw (drop_of_length-le l h)

-- a table that is a pattern, by a test that antt computes
unfoldable pub pattern? : List (List ℤ) → Bool
pattern? offsets = leb (length offsets) 9 && all? (in_window 2) (pairs offsets)

pub pattern_yes : (offsets : List (List ℤ)) → T (pattern? offsets) → Pattern offsets
unfolding pattern?
pattern_yes offsets h =
    record {
      short = leb→le (length offsets) 9 (and_left (leb (length offsets) 9) (all? (in_window 2) (pairs offsets)) h);
      near = all-within 2 (pairs offsets) (and_right (leb (length offsets) 9) (all? (in_window 2) (pairs offsets)) h);
    }

-- ---- whether a point is one of a pattern: no offset passed leads to it, so those left decide

pub record Missing (y x cy cx : ℕ) (offsets : List (List ℤ)) (i : ℕ) : Type 0 where
  pub passed : i ≤ length offsets
  pub left : is_in (point y x) (around (point cy cx) (pairs (drop i offsets))) ≡ is_in (point y x) (around (point cy cx) (pairs offsets))

module _ (y x cy cx : ℕ) (offsets : List (List ℤ)) where
  pub missing_first : Missing y x cy cx offsets 0
  missing_first = record { passed = omega arith; left = refl }

  module _ (i : ℕ) (m : Missing y x cy cx offsets i) where
    abbrev hit : Bool
    hit = same? (point y x) (plus (point cy cx) (offset (get_or offsets i [])))

    turn : i < length offsets
        → (hit || is_in (point y x) (around (point cy cx) (pairs (drop (i + 1) offsets)))) ≡ is_in (point y x) (around (point cy cx) (pairs offsets))
    unfolding is_in around
    turn h = rw (pairs_more offsets i h) at m.left

    pub missing_hit : i < length offsets → hit ≡ true → true ≡ is_in (point y x) (around (point cy cx) (pairs offsets))
    missing_hit h a = rw a at (turn h)

    pub missing_more : i < length offsets → hit ≡ false → Missing y x cy cx offsets (i + 1)
    missing_more h a = record { passed = omega arith; left = rw a at (turn h) }

    pub missing_last : length offsets ≤ i → false ≡ is_in (point y x) (around (point cy cx) (pairs offsets))
    unfolding is_in around
    missing_last h = rw (pairs_none offsets i h) at m.left

-- ---- a pattern, one point after another: what is left leads from the best by now to where all leads from the first

each_head : (P : Vector → Type 0) (v : Vector) (vs : List Vector) → Each P (v ∷ vs) → P v
each_head P v vs (more h e) = h

each_tail : (P : Vector → Type 0) (v : Vector) (vs : List Vector) → Each P (v ∷ vs) → Each P vs
each_tail P v vs (more h e) = e

pub record Going (t : Target) (before : List Vector) (cy cx p : ℕ) (offsets : List (List ℤ)) (at-origin best : BestSoFar) (i : ℕ) : Type 0 where
  pub passed : i ≤ length offsets
  pub near : Each (Within 2) (pairs (drop i offsets))
  pub left : probe t (seen_of best) (fresh before (around (point cy cx) (widened p (pairs (drop i offsets)))))
      ≡ probe t (seen_of at-origin) (fresh before (around (point cy cx) (widened p (pairs offsets))))
  pub few : best.count ≤ at-origin.count + i

module _ (t : Target) (before : List Vector) (cy cx p : ℕ) (offsets : List (List ℤ)) (at-origin : BestSoFar) where
  pub going_first : Each (Within 2) (pairs offsets) → Going t before cy cx p offsets at-origin at-origin 0
  going_first e = record { passed = omega arith; near = e; left = refl; few = omega arith }

  module _ (best : BestSoFar) (i : ℕ) (g : Going t before cy cx p offsets at-origin best i) where
    pub going_near : i < length offsets → Within 2 (offset (get_or offsets i []))
    going_near h = each_head (Within 2) _ _ (rw (pairs_more offsets i h) at g.near)

    pub going_more : (r : BestSoFar) → i < length offsets
        → Holds r (probe_new t before (seen_of best) (plus (point cy cx)
        (vec (pos p *ℤ (offset (get_or offsets i [])).dy) (pos p *ℤ (offset (get_or offsets i [])).dx)))) (best.count + 1)
        → Going t before cy cx p offsets at-origin r (i + 1)
    unfolding around widened
    going_more r h k =
        record {
          passed = omega arith;
          near = each_tail (Within 2) _ _ (rw (pairs_more offsets i h) at g.near);
          left = rw k.is (sym (probe-new t (seen_of best) _ before _) ∙ (rw (pairs_more offsets i h) at g.left));
          few = let f = g.few in let q = k.few in omega arith;
        }

    pub going_last : length offsets ≤ i → seen_of best ≡ probe t (seen_of at-origin) (fresh before (around (point cy cx) (widened p (pairs offsets))))
    unfolding probe around widened fresh
    going_last h = rw (pairs_none offsets i h) at g.left
