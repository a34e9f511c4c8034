-- One part of the travels held, dy or dx: what its test says, and the sum of the held ones, place by place.
--   Kept       the test, as facts: kept_yes, kept_true
--   sum_at, sum_out   the test holds exactly where the parts, counted, make up the sum
--   more_next, more_last   the places with one more; sum_more, sum_full: its sum; kept_small: a sum of at most 64 is small
--   Whole      the test of both parts, as facts: whole_yes, whole_true
use Prim.Native.Nat.{ℕ, zero, suc, ◌+◌, ◌-◌, ◌*◌, ◌≤◌, ◌<◌}
use mathlib.Core.Path.{◌≡◌, sym, ap, ◌∙◌}
use mathlib.Core.Logic.{◌⊎◌, inl, inr, ⊎_elim}
use mathlib.Core.Bool.{Bool, false, ◌&&◌}
use mathlib.Core.List.{List, [], ◌∷◌, ◌++◌, append-nil}
use native.Mathlib.Numerals.{add-one}
use native.Mathlib.Nat.{add_comm}
use native.Mathlib.Decide.{dec_le}
use native.Mathlib.Omega.{arith}
use borrow.Author.Tests.{eq-eqb, le-leb, lt-leb}
use lib.Dec.{T, leb, eqb, leb→le, le→leb, eqb→eq}
use lib.IntN.{ℤ, pos, nat_abs, ◌+ℤ◌, ◌-ℤ◌}
use lib.ListN.{length, get_or, set, take, drop, length-append, length-drop, drop_of_length-le}
use lib.Seq.{take-suc, take_all, take-suc-set, length-take-le, drop-cons, drop-append-le, set_at, set_split, append_snoc, ext_get_or, get_or-drop}
use Rattle.base.specs.Tests.{and_left, and_right, and_both, T_true, true_T, T_false, iff_test, all_below, check_below, all-below}
use Rattle.base.specs.Sum.{sum_to, sum_to_bound, sum_to_term, sum_each, sum_each_none, sum_each_more}
use Rattle.base.specs.Lists.{list_to, length_list_to, get_d_list_to, fill_to, fill_zero}
use Rattle.std.specs.Prelude.{Some, None}
use Rattle.signed.specs.Int.{up, dn, same, eq_z, eq_z_self, eq_yes, parts, added, less}
use Rattle.signed.specs.Values.{shifted_by, shifted_is, shifted_no, bias_is}
use Rattle.recent.specs.declared.Recent.{Recent}
use Rattle.recent.specs.Recent.{most_held, sum_held, parts_ok, places_more, recent_ok, held_more}
use Rattle.recent.specs.Counting.{counted, counted_to}

abbrev inside : List ℤ → ℕ → Bool
inside places k = leb (nat_abs (get_or places k (pos 0))) 16

pub record Kept (places : List ℤ) (held : ℕ) (sum : ℤ) : Type 0 where
  pub within : (k : ℕ) → k < held → nat_abs (get_or places k (pos 0)) ≤ 16
  pub sum_is : sum ≡ sum_held places held

module _ (places : List ℤ) (held : ℕ) (sum : ℤ) where
  pub kept_yes : T (parts_ok places held sum) → Kept places held sum
  unfolding parts_ok
  kept_yes t =
      let a = all_below (inside places) held in
      let b = eq_z sum (sum_held places held) in
      record {
        within = λ k h. leb→le _ 16 (check_below (inside places) held (and_left a b t) k h);
        sum_is = same _ _ (eq_yes sum _ (T_true b (and_right a b t)));
      }

  pub kept_true : Kept places held sum → T (parts_ok places held sum)
  unfolding parts_ok
  kept_true k =
      and_both (all_below (inside places) held) (eq_z sum (sum_held places held))
      (all-below (inside places) held (λ i h. le→leb _ 16 (k.within i h)))
      (rw k.sum_is (true_T _ (eq_z_self (sum_held places held))))

-- ---- the sum

module _ (places : List ℤ) where
  sum_none : sum_held places 0 ≡ pos 0
  unfolding sum_held
  sum_none = sum_each_none (λ (z : ℤ). z)

  sum_next : (k : ℕ) → k < length places → sum_held places (k + 1) ≡ sum_held places k +ℤ get_or places k (pos 0)
  unfolding sum_held
  sum_next k h = rw (add-one k, take-suc places k (pos 0) h) (sum_each_more (λ z. z) (take k places) (get_or places k (pos 0)))

-- a part inside counts as itself and 16
counted_in : (z : ℤ) → nat_abs z ≤ 16 → (counted z + dn z ≡ 16 + up z) × (counted z ≤ 32)
counted_in z h = rw (le-leb (nat_abs z) 16 h) (omega (arith, bias_is 16 z h), omega (arith, bias_is 16 z h, parts z))

-- and any other as 65,536
counted_out : (z : ℤ) → 16 < nat_abs z → counted z ≡ 65536
counted_out z h = rw (lt-leb (nat_abs z) 16 h)

inside_or : (z : ℤ) → (nat_abs z ≤ 16) ⊎ (16 < nat_abs z)
inside_or z = go (dec_le (nat_abs z) 16)
  where
    go : Dec (nat_abs z ≤ 16) → (nat_abs z ≤ 16) ⊎ (16 < nat_abs z)
    go (yes i) = inl i
    go (no o) = inr (omega (arith, o))

counted_small : (z : ℤ) → counted z < 65536 → nat_abs z ≤ 16
counted_small z h = ⊎_elim (λ i. i) (λ o. absurd (omega (arith, counted_out z o))) (inside_or z)

pub counted_few : (places : List ℤ) (k : ℕ) → counted_to places k ≤ k * 65536
counted_few places k =
    sum_to_bound 65536 (λ i. counted (get_or places i (pos 0))) k (λ i h.
    let z = get_or places i (pos 0) in
    ⊎_elim (λ a. omega (arith, counted_in z a)) (λ o. omega (arith, counted_out z o)) (inside_or z))

module _ (places : List ℤ) (long : length places ≡ most_held) where
  -- all of them inside: the sum is that of the parts, and 16 for each
  counted_sum : (k : ℕ) → k ≤ most_held → ((i : ℕ) → i < k → nat_abs (get_or places i (pos 0)) ≤ 16)
      → (counted_to places k + dn (sum_held places k) ≡ 16 * k + up (sum_held places k)) × (counted_to places k ≤ 32 * k)
  unfolding sum_to
  counted_sum zero h w = rw (sum_none places) (omega arith, omega arith)
  counted_sum (suc k) h w =
      let z = get_or places k (pos 0) in
      let s = counted_sum k (omega arith) (λ i l. w i (omega arith)) in
      let c = counted_in z (w k (omega arith)) in
      rw (← add-one k, sum_next places k (omega arith)) (omega (arith, s, c, added (sum_held places k) z))

  -- the test holds where the totals are one
  module _ (held : ℕ) (sum : ℤ) (few : held ≤ most_held) where
    pub sum_out : shifted_by (16 * held) sum (32 * most_held) ≡ None → parts_ok places held sum ≡ false
    sum_out e =
        T_false _ (λ t.
        let k = kept_yes places held sum t in
        let c = counted_sum held few k.within in
        ⊎_elim (λ l. omega (arith, c, ap up k.sum_is, ap dn k.sum_is)) (λ l. omega (arith, c, ap up k.sum_is, ap dn k.sum_is))
        (shifted_no (16 * held) sum (32 * most_held) e))

    pub sum_at : (t : ℕ) → shifted_by (16 * held) sum (32 * most_held) ≡ Some t → eqb t (counted_to places held) ≡ parts_ok places held sum
    sum_at t e =
        let i = shifted_is (16 * held) sum (32 * most_held) t e in
        iff_test (eqb t (counted_to places held)) (parts_ok places held sum)
        (λ y.
        let q = eqb→eq t (counted_to places held) y in
        let w : (k : ℕ) → k < held → nat_abs (get_or places k (pos 0)) ≤ 16 = λ k h.
        counted_small (get_or places k (pos 0)) (omega (arith, q, i.1, sum_to_term (λ i. counted (get_or places i (pos 0))) held k h)) in
        kept_true places held sum (record {
          within = w;
          sum_is = same sum (sum_held places held) (omega (arith, q, i.0, counted_sum held few w));
        }))
        (λ y.
        let k = kept_yes places held sum y in
        true_T _ (eq-eqb t (counted_to places held) (omega (arith, ap up k.sum_is, ap dn k.sum_is, i.0, counted_sum held few k.within))))

-- ---- one part more

-- what stands behind place k
abbrev pub behind : List ℤ → ℕ → ℤ
behind places k = get_or places (k + 1) (pos 0)

moved_forward : (places : List ℤ) → length places ≡ most_held → drop 1 places ≡ list_to (behind places) 63
moved_forward places l =
    ext_get_or (pos 0) (drop 1 places) (list_to (behind places) 63) (rw (length-drop, length_list_to) (omega arith))
    (λ i h.
    let n = length-drop 1 places in
    get_or-drop 1 places i (pos 0) ∙ ap (λ (k : ℕ). get_or places k (pos 0)) (add_comm 1 i) ∙ sym (get_d_list_to (behind places) 63 i (pos 0) (omega arith)))

module _ (places : List ℤ) (held : ℕ) (z : ℤ) (long : length places ≡ most_held) where
  -- the held ones and this one
  pub joined_long : held ≤ most_held → length (take held places ++ (z ∷ [])) ≡ held + 1
  joined_long h = rw (length-append, length-take-le held places (omega arith))

  pub more_next : held < most_held → set places held z ≡ places_more places held z
  unfolding places_more
  more_next h =
      let none : held + 1 - most_held ≡ 0 = omega arith in
      rw (joined_long (omega arith), none, add-one held, set_split places held z (omega arith)) (sym (append_snoc (take held places) z _))

  -- the oldest leaves
  more_full : held ≡ most_held → drop 1 places ++ (z ∷ []) ≡ places_more places held z
  unfolding places_more
  more_full e =
      let none = drop_of_length-le places {i = most_held + 1} (omega arith) in
      rw (joined_long (omega arith), e, take_all most_held places (omega arith), drop-append-le 1 places (z ∷ []) (omega arith), none)
      (sym (append-nil (drop 1 places ++ (z ∷ []))))

  -- 63 places, each with what stood behind it, and the new part in the last
  pub more_last : held ≡ most_held → set (fill_to places 0 (behind places) 63) 63 z ≡ places_more places held z
  more_last e =
      rw (← more_full e, fill_zero places (behind places) 63, drop-cons places 63 (pos 0) (omega arith), drop_of_length-le places {i = 64} (omega arith))
      (set_at (list_to (behind places) 63) _ [] z 63 (length_list_to (behind places) 63) ∙ ap (λ (p : List ℤ). p ++ (z ∷ [])) (sym (moved_forward places long)))

  pub sum_more : held < most_held → sum_held (places_more places held z) (held_more held) ≡ sum_held places held +ℤ z
  unfolding sum_held
  sum_more h =
      let n : held_more held ≡ suc held = omega arith in
      rw (n, ← more_next h, take-suc-set places held z (omega arith)) (sum_each_more (λ z. z) (take held places) z)

  pub sum_full : held ≡ most_held → sum_held (places_more places held z) (held_more held) ≡ (sum_held places held +ℤ z) -ℤ get_or places 0 (pos 0)
  unfolding sum_held sum_each
  sum_full e =
      let first = get_or places 0 (pos 0) in
      let others = sum_each (λ (p : ℤ). p) (drop 1 places) in
      let n : length (drop 1 places ++ (z ∷ [])) ≤ 64 = rw (length-append, length-drop) (omega arith) in
      let s : sum_each (λ (p : ℤ). p) places ≡ first +ℤ others = ap (sum_each (λ (p : ℤ). p)) (drop-cons places 0 (pos 0) (omega arith)) in
      rw (← more_full e, e, take_all 64 places (omega arith), take_all 64 (drop 1 places ++ (z ∷ [])) n, s)
      (sum_each_more (λ (p : ℤ). p) (drop 1 places) z
      ∙ same _ _ (omega (arith, added others z, added first others, added (first +ℤ others) z, less ((first +ℤ others) +ℤ z) first)))

-- a sum of at most 64 parts is small
pub kept_small : (places : List ℤ) (held : ℕ) (sum : ℤ) → length places ≡ most_held → held ≤ most_held → Kept places held sum → nat_abs sum ≤ 1024
kept_small places held sum l h k = rw k.sum_is (omega (arith, counted_sum places l held h k.within, parts (sum_held places held)))

-- ---- both parts

pub record Whole (r : Recent) : Type 0 where
  pub few : r.held ≤ most_held
  pub down : T (parts_ok r.dy r.held r.down)
  pub across : T (parts_ok r.dx r.held r.across)

pub whole_yes : (r : Recent) → T (recent_ok r) → Whole r
unfolding recent_ok
whole_yes r t =
    let a = leb r.held most_held in
    let b = parts_ok r.dy r.held r.down in
    let c = parts_ok r.dx r.held r.across in
    let u = and_right a (b && c) t in
    record { few = leb→le r.held most_held (and_left a (b && c) t); down = and_left b c u; across = and_right b c u }

pub whole_true : (r : Recent) → Whole r → T (recent_ok r)
unfolding recent_ok
whole_true r w =
    let b = parts_ok r.dy r.held r.down in
    let c = parts_ok r.dx r.held r.across in
    and_both (leb r.held most_held) (b && c) (le→leb r.held most_held w.few) (and_both b c w.down w.across)
