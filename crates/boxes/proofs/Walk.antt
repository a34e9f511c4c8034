-- The boxes of m from those of half of it: after some turns those of all m so far stand in their places.
--   Walk                              what the turns so far have left
--   walk_first, walk_more, walk_last  the pels alone, twice the m, and all m
--   walk_window, walk_own             what stands at the m reached last; window_small, one_small: it is small
--   Turn                              where a turn reads and stores; walk_turn: so it does
use Prim.Native.Nat.{ℕ, zero, suc, ◌+◌, ◌-◌, ◌*◌, ◌^◌, ◌≤◌, ◌<◌, min}
use mathlib.Core.Path.{◌≡◌, refl, sym, ap, ap₂, subst, ◌∙◌}
use mathlib.Core.Logic.{⊎_elim}
use mathlib.Core.List.{List}
use native.Mathlib.Nat.{zero-mul, pow-le-pow_right, one-le-pow, le_trans, mul-le-mul, mul-le-mul_right, zero-lt-suc, eq-or-lt_of_le}
use native.Mathlib.Omega.{arith}
use lib.Dec.{T}
use lib.ListN.{length, get_or}
use Rattle.base.specs.Index.{row_next, row_fits}
use Rattle.base.specs.Lists.{fill_to, length_fill, fill_in, fill_before}
use Rattle.refusals.specs.Refusals.{block_size_ok, block_size}
use Rattle.boxes.specs.Boxes.{box, doubled, Cut, area, window_places, own_places, Levels}
use Rattle.boxes.proofs.Box.{box_one, box_double, box_most}
use Rattle.boxes.proofs.Rooms.{cut_at, power_double, power_below, power_next, power_small, area_is, area_small}
use Rattle.boxes.proofs.Rooms.{window_inside, own_inside, window_room, own_room, window_split, own_split}

-- where a turn reads and stores
pub record Turn (n span from m long : ℕ) : Type 0 where
  pub small : (n ≤ 32) × (m ≤ 8) × (1 ≤ m) × (2 * m ≤ n)
  pub area_of : area n ≡ (n + 32) * (n + 32) + n * n
  pub far : from + area n + area n ≤ 25600
  pub room : from + area n + area n ≤ long
  pub rows : (n + 32) * m ≤ 512
  pub own_rows : n * m ≤ 256
  pub window : span + (n + 32 + 1) * (n - 2 * m) ≤ (n + 32) * (n + 32)
  pub own : (n + 1) * (n - 2 * m) + 1 ≤ n * n
  pub window_read : from + (n + 32) * m + m + (span + (n + 32 + 1) * (n - 2 * m)) ≤ from + area n
  pub own_read : from + (n + 32) * (n + 32) + n * m + m + ((n + 1) * (n - 2 * m) + 1) ≤ from + area n

module _ (first : List ℕ) (n span : ℕ) where
  -- what stands at m = 1
  abbrev pels : ℕ → ℕ
  pels u = get_or first u 0

  abbrev own_pels : ℕ → ℕ
  own_pels u = get_or first ((n + 32) * (n + 32) + u) 0

  pub record Walk (boxes : List ℕ) (from m : ℕ) : Type 0 where
    pub k : ℕ
    pub few : k ≤ 4
    pub power : m ≡ 2 ^ k
    pub place : from ≡ k * area n
    pub inside : m ≤ n
    pub long : length boxes ≡ length first
    pub kept : (u : ℕ) → u < area n → get_or boxes u 0 ≡ get_or first u 0
    pub window : (l t : ℕ) → l ≤ k → t < window_places n span (2 ^ l) → get_or boxes (l * area n + t) 0 ≡ box pels (n + 32) (2 ^ l) t
    pub own : (l t : ℕ) → l ≤ k → t < own_places n (2 ^ l) → get_or boxes (l * area n + (n + 32) * (n + 32) + t) 0 ≡ box own_pels n (2 ^ l) t

  pub walk_first : 1 ≤ n → Walk first 0 1
  walk_first some = record {
    k = 0;
    few = omega arith;
    power = refl;
    place = sym (zero-mul (area n));
    inside = some;
    long = refl;
    kept = λ u h. refl;
    window = window;
    own = own;
  }
    where
      window : (l t : ℕ) → l ≤ 0 → t < window_places n span (2 ^ l) → get_or first (l * area n + t) 0 ≡ box pels (n + 32) (2 ^ l) t
      window zero t h i =
          let e : 0 * area n + t ≡ t = omega (arith, zero-mul (area n)) in
          ap pels e ∙ sym (box_one pels (n + 32) t)
      window (suc l) t h i = absurd (omega arith)

      own : (l t : ℕ) → l ≤ 0 → t < own_places n (2 ^ l) → get_or first (l * area n + (n + 32) * (n + 32) + t) 0 ≡ box own_pels n (2 ^ l) t
      own zero t h i =
          let e : 0 * area n + (n + 32) * (n + 32) + t ≡ (n + 32) * (n + 32) + t = omega (arith, zero-mul (area n)) in
          ap pels e ∙ sym (box_one own_pels n t)
      own (suc l) t h i = absurd (omega arith)

  -- after the last turn
  pub walk_last : (boxes : List ℕ) (from m : ℕ) → Walk boxes from m → min n 16 ≤ m → Levels pels n span boxes
  walk_last boxes from m w e = record {
    window = λ x t c h. rw (cut_at n x c) (window x t c h);
    own = λ x t c h. rw (cut_at n x c) (own x t c h);
  }
    where
      reached : (x : ℕ) (c : Cut n x) → c.exponent ≤ w.k
      reached x c = power_below w.k c.exponent (omega (arith, c.power, c.inside, w.power, pow-le-pow_right {n = 2} (zero-lt-suc 1) c.few))

      window : (x t : ℕ) (c : Cut n x) → t < window_places n span x → get_or boxes (c.exponent * area n + t) 0 ≡ box pels (n + 32) x t
      window x t c h = rw c.power (w.window c.exponent t (reached x c) (rw c.power at h))

      own : (x t : ℕ) (c : Cut n x) → t < own_places n x → get_or boxes (c.exponent * area n + (n + 32) * (n + 32) + t) 0 ≡ box own_pels n x t
      own x t c h = rw c.power (w.own c.exponent t (reached x c) (rw c.power at h))

  module _ (allowed : T (block_size_ok n)) (short : span ≤ (n + 32) * 32 + 33) (room : 5 * area n ≤ length first)
      (bytes : (u : ℕ) → u < area n → get_or first u 0 ≤ 255) where
    module _ (boxes : List ℕ) (from m : ℕ) (w : Walk boxes from m) where
      pub walk_window : (t : ℕ) → t < window_places n span m → get_or boxes (from + t) 0 ≡ box pels (n + 32) m t
      walk_window t h = rw (w.place, w.power) (w.window w.k t (omega arith) (rw w.power at h))

      pub walk_own : (t : ℕ) → t < own_places n m → get_or boxes (from + (n + 32) * (n + 32) + t) 0 ≡ box own_pels n m t
      walk_own t h = rw (w.place, w.power) (w.own w.k t (omega arith) (rw w.power at h))

      module _ (more : m < min n 16) where
        -- the m that follows
        pub walk_twice : (w.k ≤ 3) × (m ≤ 8) × (2 * m ≤ n) × (1 ≤ m)
        walk_twice =
            let s = power_small w.k w.few (λ e. omega (arith, w.power, e)) in
            let next = power_next n allowed w.k (rw w.power at (let h : m < n = omega arith in h)) in
            (s.0, rw w.power s.1, rw w.power next, rw w.power (one-le-pow w.k 2 (zero-lt-suc 1)))

        -- two areas more have room
        pub walk_room : from + area n + area n ≤ length boxes
        walk_room = omega (arith, w.place, w.long, row_fits w.k 4 (area n) (omega (arith, walk_twice.0)))

        most : (x : ℕ) → x ≤ m * (m * 255) → x ≤ 16383
        most x h =
            let e = walk_twice.1 in
            omega (arith, mul-le-mul {m₂ = 2040} e (mul-le-mul_right 255 e))

        -- what is added up is small
        pub window_small : (u : ℕ) → from ≤ u → u < from + (n + 32) * m + m + (span + (n + 32 + 1) * (n - 2 * m)) → get_or boxes u 0 ≤ 16383
        window_small u h i =
            let e : from + (u - from) ≡ u = omega arith in
            let t : u - from < window_places n span m = omega (arith, window_split n span m walk_twice.2) in
            subst (λ (x : ℕ). get_or boxes x 0 ≤ 16383) e
            (rw (walk_window (u - from) t)
            (most _ (box_most pels (n + 32) 255 m (u - from) (λ p q hp hq.
            bytes _ (omega (arith, area_is n, window_inside n span m w.inside short (u - from) p q t hp hq))))))

        own_small : (u : ℕ) → from + (n + 32) * (n + 32) ≤ u → u < from + (n + 32) * (n + 32) + n * m + m + ((n + 1) * (n - 2 * m) + 1)
            → get_or boxes u 0 ≤ 16383
        own_small u h i =
            let v = u - (from + (n + 32) * (n + 32)) in
            let e : from + (n + 32) * (n + 32) + v ≡ u = omega arith in
            let t : v < own_places n m = omega (arith, own_split n m walk_twice.2) in
            subst (λ (x : ℕ). get_or boxes x 0 ≤ 16383) e
            (rw (walk_own v t)
            (most _ (box_most own_pels n 255 m v (λ p q hp hq. bytes _ (omega (arith, area_is n, own_inside n m w.inside v p q t hp hq))))))

        -- the places of 2m
        pub window-places : span + (n + 32 + 1) * (n - 2 * m) ≤ (n + 32) * (n + 32)
        window-places = window_room n span (2 * m) walk_twice.2 short (omega (arith, walk_twice.3))

        pub own-places : (n + 1) * (n - 2 * m) + 1 ≤ n * n
        own-places = own_room n (2 * m) walk_twice.2 (omega (arith, walk_twice.3))

        -- the window's boxes of 2m stored, and then the block's
        abbrev one : List ℕ
        one = fill_to boxes (from + area n) (doubled boxes from m ((n + 32) * m)) (span + (n + 32 + 1) * (n - 2 * m))

        abbrev two : List ℕ
        two = fill_to one (from + (n + 32) * (n + 32) + area n) (doubled one (from + (n + 32) * (n + 32)) m (n * m)) ((n + 1) * (n - 2 * m) + 1)

        one_room : from + area n + (span + (n + 32 + 1) * (n - 2 * m)) ≤ length boxes
        one_room = omega (arith, walk_room, window-places, area_is n)

        pub one_long : length one ≡ length boxes
        one_long = length_fill boxes (from + area n) _ _ one_room

        two_room : from + (n + 32) * (n + 32) + area n + ((n + 1) * (n - 2 * m) + 1) ≤ length one
        two_room = rw one_long (omega (arith, walk_room, own-places, area_is n))

        pub two_long : length two ≡ length boxes
        two_long = length_fill one _ _ _ two_room ∙ one_long

        one_early : (u : ℕ) → u < from + area n → get_or one u 0 ≡ get_or boxes u 0
        one_early u h = fill_before boxes _ _ _ u 0 one_room h

        two_early : (u : ℕ) → u < from + area n → get_or two u 0 ≡ get_or boxes u 0
        two_early u h = fill_before one _ _ _ u 0 two_room (omega arith) ∙ one_early u h

        -- what the block's boxes are added up from is as it was
        pub one_small : (u : ℕ) → from + (n + 32) * (n + 32) ≤ u → u < from + (n + 32) * (n + 32) + n * m + m + ((n + 1) * (n - 2 * m) + 1)
            → get_or one u 0 ≤ 16383
        one_small u h i =
            let e = own_split n m walk_twice.2 in
            let o = own_room n m w.inside walk_twice.3 in
            rw (one_early u (omega (arith, area_is n))) (own_small u h i)

        new_window : (t : ℕ) → t < window_places n span (2 * m) → get_or two (from + area n + t) 0 ≡ box pels (n + 32) (2 * m) t
        new_window t h =
            let s = window_split n span m walk_twice.2 in
            let b : from + (n + 32) * m + t ≡ from + (t + (n + 32) * m) = omega arith in
            fill_before one _ _ _ (from + area n + t) 0 two_room (omega (arith, window-places))
            ∙ fill_in boxes (from + area n) _ _ t 0 one_room h
            ∙ ap₂ ◌+◌ (ap₂ ◌+◌ (walk_window t (omega arith)) (at (from + t + m) (t + m) (omega arith) (omega arith)))
            (ap₂ ◌+◌ (at (from + (n + 32) * m + t) (t + (n + 32) * m) (omega arith) (omega arith))
            (at (from + (n + 32) * m + t + m) (t + (n + 32) * m + m) (omega arith) (omega arith)))
            ∙ sym (box_double pels (n + 32) m t)
          where
            at : (u t : ℕ) → u ≡ from + t → t < window_places n span m → get_or boxes u 0 ≡ box pels (n + 32) m t
            at u t e h = rw e (walk_window t h)

        new_own : (t : ℕ) → t < own_places n (2 * m) → get_or two (from + area n + (n + 32) * (n + 32) + t) 0 ≡ box own_pels n (2 * m) t
        new_own t h =
            let s = own_split n m walk_twice.2 in
            let e : from + area n + (n + 32) * (n + 32) + t ≡ from + (n + 32) * (n + 32) + area n + t = omega arith in
            ap (λ (u : ℕ). get_or two u 0) e
            ∙ fill_in one (from + (n + 32) * (n + 32) + area n) _ _ t 0 two_room h
            ∙ ap₂ ◌+◌ (ap₂ ◌+◌ (at (from + (n + 32) * (n + 32) + t) t (omega arith) (omega arith))
            (at (from + (n + 32) * (n + 32) + t + m) (t + m) (omega arith) (omega arith)))
            (ap₂ ◌+◌ (at (from + (n + 32) * (n + 32) + n * m + t) (t + n * m) (omega arith) (omega arith))
            (at (from + (n + 32) * (n + 32) + n * m + t + m) (t + n * m + m) (omega arith) (omega arith)))
            ∙ sym (box_double own_pels n m t)
          where
            at : (u t : ℕ) → u ≡ from + (n + 32) * (n + 32) + t → t < own_places n m → get_or one u 0 ≡ box own_pels n m t
            at u t e h =
                rw e (one_early _ (omega (arith, area_is n, own_room n m w.inside walk_twice.3)) ∙ walk_own t h)

        pub walk_more : Walk two (from + area n) (2 * m)
        walk_more = record {
          k = w.k + 1;
          few = omega (arith, walk_twice.0);
          power = rw w.power (sym (power_double w.k));
          place = omega (arith, w.place, row_next w.k (area n));
          inside = walk_twice.2;
          long = two_long ∙ w.long;
          kept = λ u h. two_early u (omega arith) ∙ w.kept u h;
          window = λ l t h i. ⊎_elim (window_last l t i) (λ (e : l < w.k + 1). window_before l t (omega arith) i) (eq-or-lt_of_le h);
          own = λ l t h i. ⊎_elim (own_last l t i) (λ (e : l < w.k + 1). own_before l t (omega arith) i) (eq-or-lt_of_le h);
        }
          where
            -- an m before stands before, and is at most N
            before : (l : ℕ) → l ≤ w.k → (1 ≤ 2 ^ l) × (2 ^ l ≤ n) × (l * area n + area n ≤ from + area n)
            before l h = (
              one-le-pow l 2 (zero-lt-suc 1),
              le_trans (pow-le-pow_right {n = 2} (zero-lt-suc 1) h) (rw w.power at w.inside),
              omega (arith, w.place, mul-le-mul_right (area n) h),
            )

            window_before : (l t : ℕ) → l ≤ w.k → t < window_places n span (2 ^ l) → get_or two (l * area n + t) 0 ≡ box pels (n + 32) (2 ^ l) t
            window_before l t h i =
                let b = before l h in
                two_early _ (omega (arith, b.2, area_is n, window_room n span (2 ^ l) b.1 short b.0)) ∙ w.window l t h i

            own_before : (l t : ℕ) → l ≤ w.k → t < own_places n (2 ^ l) → get_or two (l * area n + (n + 32) * (n + 32) + t) 0 ≡ box own_pels n (2 ^ l) t
            own_before l t h i =
                let b = before l h in
                two_early _ (omega (arith, b.2, area_is n, own_room n (2 ^ l) b.1 b.0)) ∙ w.own l t h i

            -- the m just made
            here : (l : ℕ) → l ≡ w.k + 1 → (2 ^ l ≡ 2 * m) × (l * area n ≡ from + area n)
            here l e = (rw (e, w.power) (power_double w.k), rw e (omega (arith, w.place, row_next w.k (area n))))

            window_last : (l t : ℕ) → t < window_places n span (2 ^ l) → l ≡ w.k + 1 → get_or two (l * area n + t) 0 ≡ box pels (n + 32) (2 ^ l) t
            window_last l t i e = let q = here l e in rw (q.0, q.1) (new_window t (rw q.0 at i))

            own_last : (l t : ℕ) → t < own_places n (2 ^ l) → l ≡ w.k + 1 → get_or two (l * area n + (n + 32) * (n + 32) + t) 0 ≡ box own_pels n (2 ^ l) t
            own_last l t i e = let q = here l e in rw (q.0, q.1) (new_own t (rw q.0 at i))

        pub walk_turn : Turn n span from m (length boxes)
        walk_turn =
            let t = walk_twice in
            let few : n ≤ 32 = (block_size n allowed).most in
            let a = area_is n in
            record {
              small = (few, t.1, t.3, t.2);
              area_of = a;
              far = omega (arith, w.place, row_fits w.k 4 (area n) (omega (arith, t.0)), area_small n few);
              room = walk_room;
              rows = mul-le-mul {n₂ = 64} {m₂ = 8} (omega arith) t.1;
              own_rows = mul-le-mul {n₂ = 32} {m₂ = 8} few t.1;
              window = window-places;
              own = own-places;
              window_read = omega (arith, window_split n span m t.2, window_room n span m w.inside short t.3);
              own_read = omega (arith, own_split n m t.2, own_room n m w.inside t.3);
            }
