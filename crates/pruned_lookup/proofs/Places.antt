-- The places that are looked up lie in the array.
--   covered        all squares of a candidate
--   near_first     what a caller has: m a power of two up to N, and N up to 32; near_place: at another place
--   whole_places   the last of four boxes of 16, of the block and of a candidate
use Prim.Native.Nat.{ℕ, ◌+◌, ◌-◌, ◌*◌, ◌/◌, ◌^◌, ◌≤◌, ◌<◌}
use mathlib.Core.Path.{◌≡◌, sym, ap, subst, ◌∙◌}
use mathlib.Core.List.{List}
use native.Mathlib.Nat.{add-mul, mul-le-mul, mul-le-mul_left, le_refl, div-mul-le_self}
use native.Mathlib.Decide.{ℕ_discrete}
use native.Mathlib.Omega.{arith}
use lib.ListN.{length}
use Rattle.boxes.specs.Boxes.{Cut, area, level_of, window_places, own_places}
use Rattle.boxes.specs.declared.Level.{Level}
use Rattle.boxes.proofs.Rooms.{cut_some, square_inside}
use Rattle.boxes.proofs.Squares.{newer_place, window_in_array, own_in_array}
use Rattle.pruned_lookup.specs.Lookup.{side_of, Covered, Near}
use Rattle.pruned_lookup.proofs.Sides.{side_whole, side_other}

module _ (boxes : List ℕ) (n m t : ℕ) (near : Near boxes n m t) where
  abbrev s : ℕ
  s = side_of m

  abbrev span : ℕ
  span = (n + 32) * 32 + 33

  some : 1 ≤ s
  some = cut_some n s near.cut

  window_place : (u : ℕ) → u < window_places n span s → (level_of n s).at + u < length boxes
  window_place u h = omega (arith, window_in_array n span s u (le_refl span) near.cut h, near.room)

  own_place : (u : ℕ) → u < own_places n s → (level_of n s).own + u < length boxes
  own_place u h = omega (arith, own_in_array n s u near.cut h, near.room)

  few_squares : n / s ≤ 32
  few_squares = omega (arith, div-mul-le_self n s, mul-le-mul (le_refl (n / s)) some, near.small)

  older_in : (p q : ℕ) → p < n / s → q < n / s → (level_of n s).at + t + (n + 32) * (p * s) + q * s < length boxes
  older_in p q hp hq =
      let a = square_inside n s p hp in
      let c = square_inside n s q hq in
      let low : t + (n + 32) * (p * s) + q * s < window_places n span s =
      omega (arith, mul-le-mul_left (n + 32) (let e : p * s ≤ n - s = omega arith in e), add-mul (n + 32) 1 (n - s), near.place) in
      omega (arith, window_place (t + (n + 32) * (p * s) + q * s) low)

  newer_in : (p q : ℕ) → p < n / s → q < n / s → (level_of n s).own + n * (p * s) + q * s < length boxes
  newer_in p q hp hq = omega (arith, own_place (n * (p * s) + q * s) (newer_place n s p q hp hq))

  level_covered : Covered boxes (level_of n s) t
  level_covered = record {
    few = few_squares;
    side = omega (arith, near.cut.inside, near.small);
    start = window_place t (omega (arith, near.place));
    older = older_in;
    newer = newer_in;
  }

  level_whole : m ≡ 32 → ((level_of n s).own + 512 + 16 < length boxes) × ((level_of n s).at + t + 1024 + 16 < length boxes)
  level_whole e =
      let en = near.whole e in
      let es = side_whole m e in
      let low : 528 < own_places n s = rw (en, ← es) (omega arith) in
      let place : t ≤ 2080 = rw en at near.place in
      let far : t + 1040 < window_places n span s = rw (en, ← es) (omega (arith, place)) in
      (omega (arith, own_place 528 low), omega (arith, window_place (t + 1040) far))

module _ (boxes : List ℕ) (m t : ℕ) (l : Level) (near : Near boxes l.n m t) (is : l ≡ level_of l.n (side_of m)) where
  pub covered : Covered boxes l t
  covered = subst (λ (k : Level). Covered boxes k t) (sym is) (level_covered boxes l.n m t near)

  pub whole_places : m ≡ 32 → (l.own + 512 + 16 < length boxes) × (l.at + t + 1024 + 16 < length boxes)
  whole_places e =
      subst (λ (k : Level). (k.own + 512 + 16 < length boxes) × (k.at + t + 1024 + 16 < length boxes)) (sym is)
      (level_whole boxes l.n m t near e)

-- another place of the same boxes
pub near_place : (boxes : List ℕ) (n m t u : ℕ) → Near boxes n m t → u ≤ (n + 32) * 32 + 32 → Near boxes n m u
near_place boxes n m t u k h = record { small = k.small; cut = k.cut; whole = k.whole; room = k.room; place = h }

-- m is a power of two, at most N, and N at most 32
pub near_first : (boxes : List ℕ) (n m k : ℕ) → n ≤ 32 → m ≡ 2 ^ k → k ≤ 5 → m ≤ n → 5 * area n ≤ length boxes → Near boxes n m 0
near_first boxes n m k small power few inside room = record {
  small = small;
  cut = go (ℕ_discrete m 32);
  whole = λ e. omega arith;
  room = room;
  place = omega arith;
}
  where
    go : Dec (m ≡ 32) → Cut n (side_of m)
    go (yes e) =
        let s = side_whole m e in
        record { exponent = 4; few = omega arith; power = sym s; inside = omega (arith, s) }
    go (no d) =
        let s = side_other m d in
        record { exponent = k; few = low (ℕ_discrete k 5); power = sym s ∙ power; inside = omega (arith, s) }
      where
        low : Dec (k ≡ 5) → k ≤ 4
        low (yes e) = absurd (d (power ∙ ap (λ (j : ℕ). 2 ^ j) e))
        low (no f) = omega arith
