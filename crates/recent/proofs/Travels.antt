-- A list of travels as a track holds it, and what a travel more leaves.
--   holding_none   homing: a track holds the empty list
--   holding_more   a track that holds the last 64 of a list holds, with a travel more, the last 64 of the longer list
--   last_few       the last 64 are at most 64
--   travels_held   the travels in a track are the list that it holds
--   none_ok        homing leaves none of the three faults; more_ok: nor does a travel more, also to a track built by hand
--   more_long      the places stay 64
use Prim.Native.Nat.{ℕ, zero, suc, ◌+◌, ◌-◌, ◌≤◌, ◌<◌, min}
use mathlib.Core.Path.{◌≡◌, refl, ap, ap₂, ◌∙◌}
use mathlib.Core.List.{List, [], ◌∷◌, ◌++◌, map, map-append}
use native.Mathlib.Omega.{arith}
use borrow.Author.Count.{below_more}
use lib.Dec.{T}
use lib.IntN.{◌+ℤ◌, ℤ, pos, nat_abs}
use lib.ListN.{length, get_or, take, drop, replicate, length-append, length-drop, length-map}
use lib.ListN.{get_or-append, get_or-map}
use lib.Seq.{take_at, drop_at, drop-append-le, drop-drop, length-take-le, get_or_at, get_or-take, get_or-drop, ext_get_or}
use Rattle.base.specs.Sum.{sum_each}
use Rattle.base.specs.Lists.{length_list_to, get_d_list_to}
use Rattle.order.specs.declared.Vector.{Vector}
use Rattle.order.specs.Vectors.{vec, Within}
use Rattle.recent.specs.declared.Recent.{Recent}
use Rattle.recent.specs.Recent.{most_held, no_travels, sum_held, parts_ok, places_more, recent_ok, held_more, recent_more}
use Rattle.recent.specs.Recent.{travels_in, last_held, places_of, holding}
use Rattle.recent.proofs.Held.{Kept, kept_yes, kept_true, joined_long, whole_yes, whole_true}

-- ---- lists

module _ {A : Type 0} where
  last_long : (l : List A) → length (last_held l) ≡ min (length l) most_held
  last_long l = rw length-drop (omega arith)

  -- one more: the last 64 are enough to know
  last_more : (l : List A) (x : A) → last_held (last_held l ++ (x ∷ [])) ≡ last_held (l ++ (x ∷ []))
  last_more l x =
      let n = length l - most_held in
      let e : n + (length (drop n (l ++ (x ∷ []))) - most_held) ≡ length (l ++ (x ∷ [])) - most_held = rw (length-drop, length-append) (omega arith) in
      rw (← drop-append-le n l (x ∷ []) (omega arith), drop-drop, e)

  map_drop : {B : Type 0} (f : A → B) (n : ℕ) (l : List A) → map f (drop n l) ≡ drop n (map f l)
  map_drop f zero l = refl
  map_drop f (suc n) [] = refl
  map_drop f (suc n) (x ∷ xs) = map_drop f n xs

  drop_replicate : (n : ℕ) (x : A) → drop 1 (replicate n x) ≡ replicate (n - 1) x
  drop_replicate zero x = refl
  drop_replicate (suc n) x = let e : suc n - 1 ≡ n = omega arith in rw e

  sum_each_map : (f : A → ℤ) (l : List A) → sum_each (λ z. z) (map f l) ≡ sum_each f l
  unfolding sum_each
  sum_each_map f [] = refl
  sum_each_map f (x ∷ xs) = ap (◌+ℤ◌ (f x)) (sum_each_map f xs)

-- ---- one part, of any track

module _ (places : List ℤ) (held : ℕ) (z : ℤ) (long : length places ≡ most_held) (few : held ≤ most_held) where
  taken : length (take held places) ≡ held
  taken = length-take-le held places (omega arith)

  -- the held ones and this one
  abbrev joined : List ℤ
  joined = take held places ++ (z ∷ [])

  front_long : length (last_held joined) ≡ held_more held
  front_long = rw (last_long, joined_long places held z long few)

  pub more_long : length (places_more places held z) ≡ most_held
  unfolding places_more
  more_long = rw (length-append (last_held joined), front_long, length-drop) (omega arith)

  joined_small : {sum : ℤ} → Kept places held sum → nat_abs z ≤ 16 → (k : ℕ) → k < held + 1 → nat_abs (get_or joined k (pos 0)) ≤ 16
  joined_small s h =
      below_more _ held
      (λ k l. rw (get_or-append (take held places) _ (pos 0) k (rw taken l), get_or-take) (s.within k l))
      (rw (get_or_at (take held places) z [] (pos 0) held taken) h)

  kept_more : {sum : ℤ} → Kept places held sum → nat_abs z ≤ 16 →
      let more = places_more places held z in
      Kept more (held_more held) (sum_held more (held_more held))
  unfolding places_more
  kept_more s h =
      record {
        within = λ k l.
            rw (get_or-append (last_held joined) _ (pos 0) k (rw front_long l), get_or-drop, joined_long places held z long few)
            (joined_small s h _ (omega arith));
        sum_is = refl;
      }

-- ---- one part of a list of travels

module _ (part : Vector → ℤ) (ws : List Vector) where
  places-more : (v : Vector) → length ws ≤ most_held
      → places_more (places_of part ws) (length ws) (part v) ≡ places_of part (last_held (ws ++ (v ∷ [])))
  unfolding places_more places_of
  places-more v few =
      let p = length-map ws part in
      let e : most_held - length ws - 1 ≡ most_held - length (last_held (ws ++ (v ∷ []))) = rw (length-drop, length-append) (omega arith) in
      rw (take_at, ← drop-drop 1 (length ws) (places_of part ws))
      (rw (drop_at (map part ws) _ (length ws) p, drop_replicate, e, map_drop, ← length-map (ws ++ (v ∷ [])) part, map-append))

  sum_of : sum_held (places_of part ws) (length ws) ≡ sum_each part ws
  unfolding places_of sum_held
  sum_of = rw (take_at (map part ws) _ (length ws) (length-map ws part), sum_each_map)

  place_of : (k : ℕ) (d : Vector) → k < length ws → get_or (places_of part ws) k (part d) ≡ part (get_or ws k d)
  unfolding places_of
  place_of k d h = get_or-append (map part ws) _ (part d) k (rw length-map h) ∙ get_or-map part ws k d

-- ---- the travels

pub holding_none : no_travels ≡ holding []
unfolding no_travels holding places_of sum_each
holding_none = refl

pub last_few : (vs : List Vector) → length (last_held vs) ≤ most_held
last_few vs = omega (arith, last_long vs)

few_more : (ws : List Vector) (v : Vector) → length ws ≤ most_held → recent_more (holding ws) v ≡ holding (last_held (ws ++ (v ∷ [])))
unfolding recent_more holding
few_more ws v few =
    let h : held_more (length ws) ≡ length (last_held (ws ++ (v ∷ []))) = rw (last_long, length-append) in
    rw (h, places-more (λ u. u.dy) ws v few, places-more (λ u. u.dx) ws v few, sum_of (λ u. u.dy), sum_of (λ u. u.dx))

pub holding_more : (vs : List Vector) (v : Vector) → recent_more (holding (last_held vs)) v ≡ holding (last_held (vs ++ (v ∷ [])))
holding_more vs v = few_more (last_held vs) v (last_few vs) ∙ ap holding (last_more vs v)

pub travels_held : (vs : List Vector) → travels_in (holding vs) ≡ vs
unfolding holding
travels_held vs =
    let o = vec (pos 0) (pos 0) in
    ext_get_or o _ vs (length_list_to _ (length vs)) (λ k h.
    let l : k < length vs = rw length_list_to at h in
    get_d_list_to _ (length vs) k o l ∙ ap₂ vec (place_of (λ v. v.dy) vs k o l) (place_of (λ v. v.dx) vs k o l))

-- ---- the three faults

pub none_ok : T (recent_ok no_travels)
unfolding recent_ok no_travels parts_ok sum_held sum_each
none_ok = tt

pub more_ok : (r : Recent) (v : Vector) → length r.dy ≡ most_held → length r.dx ≡ most_held → T (recent_ok r) → Within 16 v
    → T (recent_ok (recent_more r v))
unfolding recent_more
more_ok r v y x t w =
    let k = whole_yes r t in
    whole_true (recent_more r v) (record {
      few = omega arith;
      down = kept_true _ _ _ (kept_more _ _ _ y k.few (kept_yes _ _ _ k.down) w.down);
      across = kept_true _ _ _ (kept_more _ _ _ x k.few (kept_yes _ _ _ k.across) w.across);
    })
