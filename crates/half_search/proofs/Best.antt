-- The winner is the one offset that HalfBest allows, and the centre is the search's own vector.
--   neighbours_in_order, neighbours_stand, neighbours_near   the nine offsets: in preference order, all of window 1, no others
--   tried_yes, tried_true   the relation and the test say the same
--   centre_tried, centre_distortion   at a candidate the centre counts, and its distortion is the search's
--   winner_best   the winner is HalfBest; half_best_unique: nothing else is
use Prim.Native.Nat.{ℕ, zero, suc, ◌+◌, ◌*◌, ◌≤◌, ◌<◌}
use mathlib.Core.Path.{◌≡◌, refl, sym, ap, ◌∙◌, subst}
use mathlib.Core.Bool.{Bool, true, false, ◌&&◌}
use mathlib.Core.List.{[], ◌∷◌}
use native.Mathlib.Nat.{le_antisymm}
use native.Mathlib.Omega.{arith, ne_cases}
use lib.Dec.{T, ltb, ltb→lt, le→leb}
use lib.IntN.{ℤ, pos, negsuc, nat_abs, ◌+ℤ◌}
use lib.ListN.{get_or}
use Rattle.base.specs.Tests.{and_left, and_right, and_both, T_true, true_T, all_below, check_below}
use Rattle.base.specs.Picks.{BestBelow, pick_head, least_of_pick}
use Rattle.base.specs.Sum.{sum_over_ext}
use Rattle.signed.specs.Int.{up, dn, sum, same}
use Rattle.signed.specs.Values.{doubled}
use Rattle.order.specs.declared.Vector.{Vector}
use Rattle.order.specs.Vectors.{vec, Within, Precedes, in_window, within_yes, same?, same_yes, same_self}
use Rattle.order.specs.Preference.{preference, preferred}
use Rattle.order.proofs.Order.{in_order, precedes_trans, precedes_irrefl}
use Rattle.frame.specs.declared.Setting.{Setting}
use Rattle.frame.specs.Pictures.{Pair}
use Rattle.frame.specs.Candidates.{Candidate, candidate_true, candidate_older}
use Rattle.distortion.specs.Blocks.{distortion_by, newer_block, measure_in, distortion}
use Rattle.half_pel.specs.HalfPel.{half_inside}
use Rattle.half_pel.proofs.Values.{half_inside_yes, half_inside_true, even_block}
use Rattle.half_search.specs.Half.{centre, neighbour, neighbour_count, in_half_pels, half_at, Tried, tried, half_distortion, HalfBest, counts, costs, winner}

-- ---- the nine offsets

-- where each stands in the preference table
abbrev table_place : ℕ → ℕ
table_place k = get_or (0 ∷ 1 ∷ 2 ∷ 3 ∷ 4 ∷ 6 ∷ 7 ∷ 10 ∷ 11 ∷ []) k 0

in_table : (k : ℕ) → k < neighbour_count → neighbour k ≡ preferred (table_place k)
unfolding preference
in_table k h = same_yes _ _ (T_true _ (check_below (λ k. same? (neighbour k) (preferred (table_place k))) neighbour_count tt k h))

rising : (i j : ℕ) → i < j → j < neighbour_count → (table_place i < table_place j) × (table_place j < 12)
rising i j h k =
    let later = check_below (λ j. all_below (λ i. ltb (table_place i) (table_place j) && ltb (table_place j) 12) j) neighbour_count tt j k in
    let t = check_below (λ i. ltb (table_place i) (table_place j) && ltb (table_place j) 12) j later i h in
    (ltb→lt _ _ (and_left (ltb (table_place i) (table_place j)) _ t), ltb→lt _ _ (and_right (ltb (table_place i) (table_place j)) _ t))

pub neighbours_in_order : (i j : ℕ) → i < j → j < neighbour_count → Precedes (neighbour i) (neighbour j)
neighbours_in_order i j h k =
    let r = rising i j h k in
    subst (λ (u : Vector). Precedes u (neighbour j)) (sym (in_table i (omega arith)))
    (subst (Precedes (preferred (table_place i))) (sym (in_table j k)) (in_order (table_place i) (table_place j) r.0 (omega (arith, r.1))))

pub neighbours_near : (k : ℕ) → k < neighbour_count → Within 1 (neighbour k)
neighbours_near k h = within_yes 1 (neighbour k) (check_below (λ k. in_window 1 (neighbour k)) neighbour_count tt k h)

-- each offset of window 1 stands among them
pub neighbours_stand : (u : Vector) → Within 1 u → (k : ℕ) × (k < neighbour_count) × (neighbour k ≡ u)
neighbours_stand u near = go u.dy u.dx near.down near.across
  where
    row : (a : ℤ) (i j k : ℕ) → (i < neighbour_count) × (neighbour i ≡ vec a (negsuc 0)) → (j < neighbour_count) × (neighbour j ≡ vec a (pos 0))
        → (k < neighbour_count) × (neighbour k ≡ vec a (pos 1)) → (b : ℤ) → nat_abs b ≤ 1 → (k : ℕ) × (k < neighbour_count) × (neighbour k ≡ vec a b)
    row a i j k l m r (negsuc zero) h = (i, l.0, l.1)
    row a i j k l m r (negsuc (suc n)) h = absurd (omega arith)
    row a i j k l m r (pos zero) h = (j, m.0, m.1)
    row a i j k l m r (pos (suc zero)) h = (k, r.0, r.1)
    row a i j k l m r (pos (suc (suc n))) h = absurd (omega arith)

    go : (a b : ℤ) → nat_abs a ≤ 1 → nat_abs b ≤ 1 → (k : ℕ) × (k < neighbour_count) × (neighbour k ≡ vec a b)
    go (negsuc zero) b g h = row (negsuc zero) 5 1 6 (omega arith, refl) (omega arith, refl) (omega arith, refl) b h
    go (negsuc (suc n)) b g h = absurd (omega arith)
    go (pos zero) b g h = row (pos zero) 2 0 3 (omega arith, refl) (omega arith, refl) (omega arith, refl) b h
    go (pos (suc zero)) b g h = row (pos 1) 7 4 8 (omega arith, refl) (omega arith, refl) (omega arith, refl) b h
    go (pos (suc (suc n))) b g h = absurd (omega arith)

-- ---- which count

module _ (s : Setting) (y x : ℕ) (h : Vector) where
  abbrev rows_inside : Bool
  rows_inside = half_inside (half_at y h.dy) s.n s.height

  abbrev columns_inside : Bool
  columns_inside = half_inside (half_at x h.dx) s.n s.width

  pub tried_yes : tried s y x h ≡ true → Tried s y x h
  unfolding tried
  tried_yes e =
      let t = true_T (rows_inside && columns_inside) e in
      record {
        down = half_inside_yes _ s.n s.height (and_left rows_inside columns_inside t);
        across = half_inside_yes _ s.n s.width (and_right rows_inside columns_inside t);
      }

  pub tried_true : 0 < s.n → Tried s y x h → tried s y x h ≡ true
  unfolding tried
  tried_true some t =
      T_true _ (and_both rows_inside columns_inside (half_inside_true _ s.n s.height some t.down) (half_inside_true _ s.n s.width some t.across))

-- ---- the centre

-- a whole vector's place in half pels is its place twice
even_at : (y : ℕ) (d : ℤ) → half_at y (doubled d +ℤ pos 0) ≡ doubled (pos y +ℤ d)
even_at y d =
    let z = pos y +ℤ d in
    same _ _ (omega (arith, sum d d, sum (d +ℤ d) (pos 0), sum (pos (2 * y)) (d +ℤ d +ℤ pos 0), sum (pos y) d, sum z z))

doubled_up : (z : ℤ) → up (doubled z) ≡ 2 * up z
doubled_up (pos n) = omega arith
doubled_up (negsuc n) = refl

pub centre_distortion : (p : Pair) (y x : ℕ) (v : Vector) → half_distortion p y x (in_half_pels v centre) ≡ distortion p y x v
unfolding half_distortion distortion distortion_by
centre_distortion p y x v =
    let n = p.setting.n in
    rw (even_at y v.dy, even_at x v.dx, doubled_up (pos y +ℤ v.dy), doubled_up (pos x +ℤ v.dx))
    (sum_over_ext n n _ _ (λ i j hi hj. ap ((measure_in p).diff (newer_block p y x i j)) (even_block p.older p.setting.width _ _ i j)))

doubled_inside : (z : ℤ) (n side : ℕ) → dn z ≡ 0 → up z + n ≤ side → T (half_inside (doubled z) n side)
doubled_inside (pos a) n side e h = le→leb _ side (omega arith)
doubled_inside (negsuc a) n side e h = absurd (omega arith)

pub centre_tried : (p : Pair) (w y x : ℕ) (v : Vector) → Candidate p.setting w y x v → counts p y x v 0 ≡ true
unfolding tried
centre_tried p w y x v c =
    let s = p.setting in
    let o = candidate_older s w y x v (candidate_true s w y x v c) in
    let down = pos y +ℤ v.dy in
    let across = pos x +ℤ v.dx in
    rw (even_at y v.dy, even_at x v.dx)
    (T_true _
    (and_both (half_inside (doubled down) s.n s.height) (half_inside (doubled across) s.n s.width)
    (doubled_inside down s.n s.height (omega (arith, o.row, sum (pos y) v.dy)) o.down)
    (doubled_inside across s.n s.width (omega (arith, o.column, sum (pos x) v.dx)) o.across)))

-- ---- the winner

module _ (p : Pair) (y x : ℕ) (v : Vector) (some : 0 < p.setting.n) where
  pub winner_below : counts p y x v 0 ≡ true → BestBelow (costs p y x v) (counts p y x v) neighbour_count (winner p y x v)
  unfolding winner
  winner_below c = least_of_pick (costs p y x v) (counts p y x v) neighbour_count (pick_head (counts p y x v) 8 c).0

  -- an offset that counts, by its place
  place_of : (u : Vector) → Within 1 u → Tried p.setting y x (in_half_pels v u) → (k : ℕ) × (k < neighbour_count) × (neighbour k ≡ u) × (counts p y x v k ≡ true)
  place_of u near t =
      let (k, h, e) = neighbours_stand u near in
      (k, h, e, ap (λ (o : Vector). tried p.setting y x (in_half_pels v o)) e ∙ tried_true p.setting y x (in_half_pels v u) some t)

  pub winner_best : counts p y x v 0 ≡ true → HalfBest p y x v (neighbour (winner p y x v))
  winner_best c =
      let b = winner_below c in
      let w = winner p y x v in
      let cost : Vector → ℕ = λ o. half_distortion p y x (in_half_pels v o) in
      record {
        near = neighbours_near w b.below;
        tried = tried_yes p.setting y x (in_half_pels v (neighbour w)) b.passes;
        least = λ u near t.
            let (k, h, e, q) = place_of u near t in
            subst (λ (o : Vector). cost (neighbour w) ≤ cost o) e (b.least k h q);
        first = λ u near t same other.
            let (k, h, e, q) = place_of u near t in
            subst (Precedes (neighbour w)) e
            (ne_cases k w _ (λ i. other (sym e ∙ ap neighbour i))
            (λ l. absurd (omega (arith, b.earlier k l q, ap cost e)))
            (λ l. neighbours_in_order w k l h));
      }

-- nothing else is: of two none precedes the other
pub half_best_unique : (p : Pair) (y x : ℕ) (v u o : Vector) → HalfBest p y x v u → HalfBest p y x v o → u ≡ o
half_best_unique p y x v u o a b = go (same? u o) refl
  where
    same_cost : half_distortion p y x (in_half_pels v o) ≡ half_distortion p y x (in_half_pels v u)
    same_cost = le_antisymm (b.least u a.near a.tried) (a.least o b.near b.tried)

    go : (t : Bool) → same? u o ≡ t → u ≡ o
    go true e = same_yes u o e
    go false e =
        let other : (u ≡ o → ⊥) = λ q. true_T false (sym e ∙ ap (same? u) (sym q) ∙ same_self u) in
        absurd
        (precedes_irrefl
        (precedes_trans (a.first o b.near b.tried same_cost (λ q. other (sym q))) (b.first u a.near a.tried (sym same_cost) other)))
