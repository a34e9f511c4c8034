-- The order's number has the preference order, and a key has its parts in it.
--   code_precedes   the vector of the smaller number precedes; code_same: no two vectors have one number
--   code_small      the number stays below the part of a key that is compared first
--   still_code      (0,0) has the least number; still_is: which one
--   key_parts       what was compared first, the row and the column, read from a key; key_spot: row and column as one number
--   key_anew        a key with another number above the same order
--   code_parts      the order's number is what the row and the column add
use Prim.Native.Nat.{ℕ, ◌+◌, ◌*◌, ◌/◌, ◌%◌, ◌≤◌, ◌<◌}
use mathlib.Core.Path.{◌≡◌, refl, sym, ap, ap₂, ◌∙◌}
use native.Mathlib.Omega.{arith}
use native.Mathlib.Decide.{dec_lt}
use borrow.Author.Tests.{lt-ltb}
use lib.Signed.{◌<ℤ◌, lt_z, lt_z_yes}
use Rattle.base.specs.Tests.{true_T}
use Rattle.signed.specs.Int.{up, dn, lt_z_is}
use Rattle.signed.specs.Values.{abs_diff, unbias, unbias_is, abs_diff_is}
use Rattle.order.specs.Vectors.{city_block, Precedes}
use Rattle.order.specs.Vectors.Precedes.{nearer, higher, lefter}
use Rattle.search.specs.Exhaustive.{grid_vector}
use Rattle.reach.specs.Keys.{order_code, key_of, code_of}

-- |dy| + |dx|, and which of two parts is smaller
city : (i j : ℕ) → city_block (grid_vector i j) ≡ abs_diff i 16 + abs_diff j 16
unfolding unbias
city i j = ap₂ ◌+◌ (abs_diff_is i 16) (abs_diff_is j 16)

before : (i k : ℕ) → i < k → unbias 16 i <ℤ unbias 16 k
before i k h =
    let u = unbias 16 i in
    let v = unbias 16 k in
    let l : up u + dn v < up v + dn u = omega (arith, unbias_is 16 i, unbias_is 16 k) in
    lt_z_yes (true_T (lt_z u v) (lt_z_is u v ∙ lt-ltb _ _ l))

-- the order's number by its three parts
abbrev coded : ℕ → ℕ → ℕ → ℕ
coded a i j = a * 4096 + i * 64 + j

module _ (a i j c k l : ℕ) (hi : i < 33) (hj : j < 33) (hk : k < 33) (hl : l < 33) where
  coded_before : coded a i j < coded c k l → (a < c → ⊥) → (a ≡ c) × ((i < k → ⊥) → (i ≡ k) × (j < l))
  coded_before h n =
      let e : a ≡ c = omega arith in
      (e, λ m. let f : i ≡ k = omega arith in (f, omega arith))

  coded_same : coded a i j ≡ coded c k l → (i ≡ k) × (j ≡ l)
  coded_same e = (omega arith, omega arith)

pub still_is : order_code 16 16 ≡ 1040
unfolding order_code
still_is = refl

module _ (i j : ℕ) (hi : i < 33) (hj : j < 33) where
  pub code_small : order_code i j < 262144
  unfolding order_code
  code_small = omega arith

  pub still_code : order_code 16 16 ≤ order_code i j
  unfolding order_code
  still_code = omega arith

  module _ (k l : ℕ) (hk : k < 33) (hl : l < 33) where
    pub code_precedes : order_code i j < order_code k l → Precedes (grid_vector i j) (grid_vector k l)
    unfolding order_code
    code_precedes h = go (dec_lt near far) (dec_lt i k)
      where
        near : ℕ
        near = abs_diff i 16 + abs_diff j 16

        far : ℕ
        far = abs_diff k 16 + abs_diff l 16

        rest : (near < far → ⊥) → (near ≡ far) × ((i < k → ⊥) → (i ≡ k) × (j < l))
        rest = coded_before near i j far k l hi hj hk hl h

        go : Dec (near < far) → Dec (i < k) → Precedes (grid_vector i j) (grid_vector k l)
        go (yes p) d = nearer (rw (city i j, city k l) p)
        go (no p) (yes q) = higher (city i j ∙ (rest p).0 ∙ sym (city k l)) (before i k q)
        go (no p) (no q) = lefter (city i j ∙ (rest p).0 ∙ sym (city k l)) (ap (unbias 16) ((rest p).1 q).0) (before j l ((rest p).1 q).1)

    pub code_same : order_code i j ≡ order_code k l → (i ≡ k) × (j ≡ l)
    unfolding order_code
    code_same e = coded_same _ i j _ k l hi hj hk hl e

  pub key_parts : (d : ℕ) → (key_of d i j / 262144 ≡ d) × (key_of d i j / 64 % 64 ≡ i) × (key_of d i j % 64 ≡ j)
  unfolding key_of order_code
  key_parts d = (omega arith, omega arith, omega arith)

  pub key_spot : (d : ℕ) → key_of d i j % 4096 ≡ 64 * i + j
  unfolding key_of order_code
  key_spot d = omega arith

  pub key_anew : (d e : ℕ) → e * 262144 + key_of d i j % 262144 ≡ key_of e i j
  unfolding key_of
  key_anew d e = omega (arith, code_small)

pub code_parts : (i j : ℕ) → code_of 64 i + code_of 1 j ≡ order_code i j
unfolding order_code
code_parts i j = omega arith
