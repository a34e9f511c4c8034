-- What the functions of this crate answer, and what a caller reads of it in plain numbers.
--   abs_diff     |a - b| of two pels
--   shifted_by   a coordinate moved by an offset, inside 0 ..= last or outside
--   moved_by     a track's place moved by a travel, inside -1,000,000 ..= 1,000,000 or outside
--   bias        d + b as a natural number, and back: unbias
--   doubled     d + d
--   signed_byte  the number whose two's complement is a byte, and back: byte_of
use Rattle.std.specs.Prelude.{ℕ, suc, ◌+◌, ◌-◌, ◌≤◌, ◌<◌, ◌≡◌, refl, Bool, true, false, cond, ◌⊎◌, ℤ, pos, negsuc, nat_abs, ◌+ℤ◌, ◌-ℤ◌, leb, ltb, Option, Some, None}
use Rattle.std.proofs.Common.{ap, ◌∙◌, arith, le-leb, leb-true, leb-false, lt-ltb, le-ltb}
use Rattle.std.proofs.Math.Logic.{inl, inr, ⊎_elim}
use Rattle.std.proofs.Math.Decide.{dec_lt}
use Rattle.std.proofs.lemmas.Bool.{lt-leb}
use Rattle.signed.specs.Int.{up, dn, same, sum, added, less}

-- |a - b|: one of the two differences is 0
abbrev pub abs_diff : ℕ → ℕ → ℕ
abs_diff a b = (a - b) + (b - a)

pub abs_diff_is : (a b : ℕ) → nat_abs (pos a -ℤ pos b) ≡ abs_diff a b
abs_diff_is a b = omega (arith, less (pos a) (pos b))

-- z, where it lies in 0 ..= last
abbrev pub at_place : ℤ → ℕ → Option ℕ
at_place (pos n) last = cond (leb n last) (Some n) None
at_place (negsuc n) last = None

unfoldable pub shifted_by : ℕ → ℤ → ℕ → Option ℕ
shifted_by at d last = at_place (pos at +ℤ d) last

at_place_at : (z : ℤ) (last n : ℕ) → up z ≡ n + dn z → n ≤ last → at_place z last ≡ Some n
at_place_at (pos m) last n e h = rw (le-leb m last (omega arith)) (ap Some (omega arith))
at_place_at (negsuc m) last n e h = absurd (omega arith)

at_place_below : (z : ℤ) (last : ℕ) → up z < dn z → at_place z last ≡ None
at_place_below (pos m) last h = absurd (omega arith)
at_place_below (negsuc m) last h = refl

at_place_above : (z : ℤ) (last : ℕ) → last + dn z < up z → at_place z last ≡ None
at_place_above (pos m) last h = rw (lt-leb m last (omega arith)) refl
at_place_above (negsuc m) last h = refl

at_place_is : (z : ℤ) (last n : ℕ) → at_place z last ≡ Some n → (up z ≡ n + dn z) × (n ≤ last)
at_place_is (pos m) last n e = go (leb m last) refl
  where
    go : (t : Bool) → leb m last ≡ t → (m ≡ n + 0) × (n ≤ last)
    go true q = let k : m ≡ n = cc in omega (arith, leb-true m last q)
    go false q = let z : ◌≡◌ {A = ℕ} 0 1 = cc in absurd (omega arith)
at_place_is (negsuc m) last n e = let z : ◌≡◌ {A = ℕ} 0 1 = cc in absurd (omega arith)

at_place_no : (z : ℤ) (last : ℕ) → at_place z last ≡ None → (up z < dn z) ⊎ (last + dn z < up z)
at_place_no (pos m) last e = go (leb m last) refl
  where
    go : (t : Bool) → leb m last ≡ t → (m < 0) ⊎ (last + 0 < m)
    go true q = let z : ◌≡◌ {A = ℕ} 0 1 = cc in absurd (omega arith)
    go false q = inr (omega (arith, leb-false m last q))
at_place_no (negsuc m) last e = inl (omega arith)

module _ (at : ℕ) (d : ℤ) (last : ℕ) where
  -- read back: what each answer says
  pub shifted_is : (n : ℕ) → shifted_by at d last ≡ Some n → (at + up d ≡ n + dn d) × (n ≤ last)
  unfolding shifted_by
  shifted_is n e = omega (arith, at_place_is (pos at +ℤ d) last n e, added (pos at) d)

  pub shifted_no : shifted_by at d last ≡ None → (at + up d < dn d) ⊎ (last + dn d < at + up d)
  unfolding shifted_by
  shifted_no e =
      ⊎_elim (λ h. inl (omega (arith, added (pos at) d))) (λ h. inr (omega (arith, added (pos at) d)))
      (at_place_no (pos at +ℤ d) last e)

  -- and what gives it
  pub shifted_at : (n : ℕ) → at + up d ≡ n + dn d → n ≤ last → shifted_by at d last ≡ Some n
  unfolding shifted_by
  shifted_at n e h = at_place_at (pos at +ℤ d) last n (omega (arith, added (pos at) d)) h

  pub shifted_below : at + up d < dn d → shifted_by at d last ≡ None
  unfolding shifted_by
  shifted_below h = at_place_below (pos at +ℤ d) last (omega (arith, added (pos at) d))

  pub shifted_above : last + dn d < at + up d → shifted_by at d last ≡ None
  unfolding shifted_by
  shifted_above h = at_place_above (pos at +ℤ d) last (omega (arith, added (pos at) d))

-- the sum, where it is at most 1,000,000 from 0
unfoldable pub moved_by : ℤ → ℤ → Option ℤ
moved_by y t = cond (leb (nat_abs (y +ℤ t)) 1000000) (Some (y +ℤ t)) None

pub moved_to : (y t : ℤ) → nat_abs (y +ℤ t) ≤ 1000000 → moved_by y t ≡ Some (y +ℤ t)
unfolding moved_by
moved_to y t h = rw (le-leb (nat_abs (y +ℤ t)) 1000000 h)

pub moved_out : (y t : ℤ) → 1000000 < nat_abs (y +ℤ t) → moved_by y t ≡ None
unfolding moved_by
moved_out y t h = rw (lt-leb (nat_abs (y +ℤ t)) 1000000 h)

-- d + b, for d not below -b, and u - b
unfoldable pub bias : ℕ → ℤ → ℕ
bias b d = up (d +ℤ pos b)

unfoldable pub unbias : ℕ → ℕ → ℤ
unbias b u = pos u -ℤ pos b

-- a number of pels in half pels
abbrev pub doubled : ℤ → ℤ
doubled d = d +ℤ d

-- the number whose two's complement is a byte, and back
unfoldable pub signed_byte : ℕ → ℤ
signed_byte b = cond (ltb b 128) (pos b) (pos b -ℤ pos 256)

unfoldable pub byte_of : ℤ → ℕ
byte_of (pos n) = n
byte_of (negsuc n) = 256 - suc n

pub byte_up : (d : ℤ) → dn d ≡ 0 → byte_of d ≡ up d
unfolding byte_of
byte_up (pos n) h = refl
byte_up (negsuc n) h = absurd (omega arith)

pub byte_down : (d : ℤ) → 0 < dn d → byte_of d ≡ 256 - dn d
unfolding byte_of
byte_down (pos n) h = absurd (omega arith)
byte_down (negsuc n) h = refl

pub signed_byte_of : (d : ℤ) → nat_abs d < 128 → signed_byte (byte_of d) ≡ d
unfolding byte_of signed_byte
signed_byte_of (pos n) h = rw (lt-ltb n 128 h)
signed_byte_of (negsuc n) h = rw (le-ltb (256 - suc n) 128 (omega arith)) (same _ (negsuc n) (omega (arith, less (pos (256 - suc n)) (pos 256))))

pub byte_of_signed : (b : ℕ) → b < 256 → byte_of (signed_byte b) ≡ b
unfolding byte_of signed_byte
byte_of_signed b h = go (dec_lt b 128)
  where
    go : Dec (b < 128) → byte_of (signed_byte b) ≡ b
    go (yes l) = rw (lt-ltb b 128 l)
    go (no g) = rw (le-ltb b 128 (omega arith)) (byte_down (pos b -ℤ pos 256) (omega (arith, less (pos b) (pos 256))) ∙ omega (arith, less (pos b) (pos 256)))

pub bias_unbias : (b u : ℕ) → bias b (unbias b u) ≡ u
unfolding bias unbias
bias_unbias b u = omega (arith, added (pos u -ℤ pos b) (pos b), less (pos u) (pos b))

pub bias_is : (b : ℕ) (d : ℤ) → nat_abs d ≤ b → bias b d + dn d ≡ b + up d
unfolding bias
bias_is b d h = omega (arith, added d (pos b))

pub unbias_is : (b u : ℕ) → up (unbias b u) + b ≡ u + dn (unbias b u)
unfolding unbias
unbias_is b u = omega (arith, less (pos u) (pos b))

-- A vector's part d, kept as d + b: one more part e is added by `shift`, with 2 b as the last place.
module _ (b : ℕ) (d e : ℤ) (h : nat_abs d ≤ b) where
  pub point_is : (p : ℕ) → shifted_by (bias b d) e (b + b) ≡ Some p → unbias b p ≡ d +ℤ e
  point_is p q =
      same (unbias b p) (d +ℤ e)
      (omega (arith, shifted_is (bias b d) e (b + b) p q, bias_is b d h, unbias_is b p, sum d e))

  pub point_out : shifted_by (bias b d) e (b + b) ≡ None → b < nat_abs (d +ℤ e)
  point_out q =
      ⊎_elim (λ k. omega (arith, bias_is b d h, added d e)) (λ k. omega (arith, bias_is b d h, added d e))
      (shifted_no (bias b d) e (b + b) q)
