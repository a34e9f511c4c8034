-- Where boxes stand.
--   log2_power      of m = 2 ^ k, up to 16; cut_at: so its boxes stand k areas on
--   power_next      where m is less than N, 2m is at most N; power_small: and at most 16, where m is not 16
--   power_below     no power of two lies between
--   cut_whole       N up to 16 is one of its m, cut_sixteen: and else 16; cut_half: with each m half of it is one
--   array_small     with N up to 16 five areas are 12,800 places; array_large: at most 25,600
--   window_inside   the numbers of a box of the window lie in the window, own_inside: and those of a box of the block in the block
--   window_room     so have its places, own_room: and the block's
--   window_split    the places of m are those of 2m, and m rows and m places more; own_split: so have the block's
--   square_inside   a square of a block in whole squares
use Prim.Native.Nat.{ℕ, zero, suc, ◌+◌, ◌-◌, ◌*◌, ◌/◌, ◌^◌, ◌≤◌, ◌<◌}
use mathlib.Core.Path.{◌≡◌, refl, ap, ◌∙◌}
use native.Mathlib.Nat.{mul-add, add-mul, mul_comm, mul-le-mul, pow-suc, pow-le-pow_right, one-le-pow, div-mul-le_self, zero-lt-suc}
use native.Mathlib.Decide.{dec_le}
use native.Mathlib.Omega.{arith}
use lib.Count.{count_trailing_zeros}
use lib.Dec.{T}
use Rattle.base.specs.Index.{row_fits}
use Rattle.refusals.specs.Cross.{log2}
use Rattle.refusals.specs.Refusals.{block_size_ok, BlockSize, block_size}
use Rattle.pruned_rule.proofs.Search.{half_pow}
use Rattle.boxes.specs.Boxes.{Cut, area, level_at, window_places, own_places}

pub log2_power : (k : ℕ) → k ≤ 4 → log2 (2 ^ k) ≡ k
unfolding count_trailing_zeros
log2_power zero h = refl
log2_power (suc zero) h = refl
log2_power (suc (suc zero)) h = refl
log2_power (suc (suc (suc zero))) h = refl
log2_power (suc (suc (suc (suc zero)))) h = refl
log2_power (suc (suc (suc (suc (suc k))))) h = absurd (omega arith)

pub cut_at : (n m : ℕ) (c : Cut n m) → level_at n m ≡ c.exponent * area n
cut_at n m c = ap (λ (k : ℕ). k * area n) (ap (λ (x : ℕ). log2 x) c.power ∙ log2_power c.exponent c.few)

pub cut_some : (n m : ℕ) → Cut n m → 1 ≤ m
cut_some n m c = rw c.power (one-le-pow c.exponent 2 (zero-lt-suc 1))

-- ---- powers of two

pub power_double : (k : ℕ) → 2 ^ (k + 1) ≡ 2 * 2 ^ k
power_double k = let e : k + 1 ≡ suc k = omega arith in rw (e, pow-suc) (mul_comm (2 ^ k) 2)

pub power_below : (k l : ℕ) → 2 ^ l ≤ 2 ^ k → l ≤ k
power_below k l h = go (dec_le l k)
  where
    go : Dec (l ≤ k) → l ≤ k
    go (yes d) = d
    go (no d) =
        let e : k + 1 ≤ l = omega arith in
        absurd (omega (arith, power_double k, pow-le-pow_right {n = 2} (zero-lt-suc 1) e, one-le-pow k 2 (zero-lt-suc 1)))

pub power_next : (n : ℕ) → T (block_size_ok n) → (k : ℕ) → 2 ^ k < n → 2 * 2 ^ k ≤ n
power_next n t k h = go (dec_le (suc s.doublings) k)
  where
    s : BlockSize n
    s = block_size n t

    go : Dec (suc s.doublings ≤ k) → 2 * 2 ^ k ≤ n
    go (yes d) = absurd (omega (arith, s.power, pow-le-pow_right {n = 2} (zero-lt-suc 1) d))
    go (no d) =
        let e : k + 1 ≤ suc s.doublings = omega arith in
        omega (arith, s.power, power_double k, pow-le-pow_right {n = 2} (zero-lt-suc 1) e)

pub power_small : (k : ℕ) → k ≤ 4 → (2 ^ k ≡ 16 → ⊥) → (k ≤ 3) × (2 ^ k ≤ 8)
power_small zero h e = (omega arith, omega arith)
power_small (suc zero) h e = (omega arith, omega arith)
power_small (suc (suc zero)) h e = (omega arith, omega arith)
power_small (suc (suc (suc zero))) h e = (omega arith, omega arith)
power_small (suc (suc (suc (suc zero)))) h e = absurd (e refl)
power_small (suc (suc (suc (suc (suc k))))) h e = absurd (omega arith)

-- ---- which m there are

pub cut_whole : (n : ℕ) → T (block_size_ok n) → n ≤ 16 → Cut n n
cut_whole n t h =
    let s = block_size n t in
    record { exponent = suc s.doublings; few = power_below 4 (suc s.doublings) (omega (arith, s.power)); power = s.power; inside = omega arith }

pub cut_sixteen : (n : ℕ) → 16 ≤ n → Cut n 16
cut_sixteen n h = record { exponent = 4; few = omega arith; power = refl; inside = h }

pub cut_half : (n m : ℕ) → Cut n m → 2 ≤ m → Cut n (m / 2)
cut_half n m c h = go c.exponent c.few c.power
  where
    go : (k : ℕ) → k ≤ 4 → m ≡ 2 ^ k → Cut n (m / 2)
    go zero l e = absurd (omega arith)
    go (suc k) l e = record { exponent = k; few = omega arith; power = rw e (half_pow k); inside = omega (arith, c.inside) }

-- ---- places

pub square_small : (a c : ℕ) → a ≤ c → a * a ≤ c * c
square_small a c h = mul-le-mul h h

pub area_is : (n : ℕ) → area n ≡ (n + 32) * (n + 32) + n * n
unfolding area
area_is n = refl

pub area_small : (n : ℕ) → n ≤ 32 → area n ≤ 5120
unfolding area
area_small n h = omega (arith, square_small (n + 32) 64 (omega arith), square_small n 32 h)

-- the two lengths of the array
pub array_small : (n : ℕ) → n ≤ 16 → 5 * area n ≤ 12800
unfolding area
array_small n h = omega (arith, square_small (n + 32) 48 (omega arith), square_small n 16 h)

pub array_large : (n : ℕ) → n ≤ 32 → 5 * area n ≤ 25600
array_large n h = omega (arith, area_small n h)

module _ (n span m : ℕ) (fits : m ≤ n) (short : span ≤ (n + 32) * 32 + 33) where
  -- N columns of the window, as those of m and the rest
  columns : (n + 32) * n ≡ (n + 32) * (n - m) + m * (n + 32)
  columns =
      let e : n - m + m ≡ n = omega arith in
      ap (λ (k : ℕ). (n + 32) * k) (omega arith) ∙ mul-add (n + 32) (n - m) m ∙ ap (λ (k : ℕ). (n + 32) * (n - m) + k) (mul_comm (n + 32) m)

  pub window_inside : (t p q : ℕ) → t < window_places n span m → p < m → q < m → t + p * (n + 32) + q < (n + 32) * (n + 32)
  window_inside t p q h hp hq =
      omega (arith, columns, mul-add (n + 32) n 32, add-mul (n + 32) 1 (n - m), row_fits p m (n + 32) hp)

  pub window_room : 1 ≤ m → window_places n span m ≤ (n + 32) * (n + 32)
  window_room some =
      omega (arith, columns, mul-add (n + 32) n 32, add-mul (n + 32) 1 (n - m), row_fits 0 m (n + 32) some)

module _ (n m : ℕ) (fits : m ≤ n) where
  own_columns : n * n ≡ n * (n - m) + m * n
  own_columns =
      ap (λ (k : ℕ). n * k) (let e : n ≡ n - m + m = omega arith in e) ∙ mul-add n (n - m) m ∙ ap (λ (k : ℕ). n * (n - m) + k) (mul_comm n m)

  pub own_inside : (t p q : ℕ) → t < own_places n m → p < m → q < m → t + p * n + q < n * n
  own_inside t p q h hp hq = omega (arith, own_columns, add-mul n 1 (n - m), row_fits p m n hp)

  pub own_room : 1 ≤ m → own_places n m ≤ n * n
  own_room some = omega (arith, own_columns, add-mul n 1 (n - m), row_fits 0 m n some)

pub window_split : (n span m : ℕ) → 2 * m ≤ n → window_places n span m ≡ (n + 32) * m + m + (span + (n + 32 + 1) * (n - 2 * m))
window_split n span m h =
    let e : n - m ≡ n - 2 * m + m = omega arith in
    omega (arith, ap (λ (k : ℕ). (n + 32 + 1) * k) e, mul-add (n + 32 + 1) (n - 2 * m) m, add-mul (n + 32) 1 m)

pub own_split : (n m : ℕ) → 2 * m ≤ n → own_places n m ≡ n * m + m + ((n + 1) * (n - 2 * m) + 1)
own_split n m h =
    let e : n - m ≡ n - 2 * m + m = omega arith in
    omega (arith, ap (λ (k : ℕ). (n + 1) * k) e, mul-add (n + 1) (n - 2 * m) m, add-mul n 1 m)

pub square_inside : (n m p : ℕ) → p < n / m → p * m + m ≤ n
square_inside n m p h = omega (arith, row_fits p (n / m) m h, div-mul-le_self n m)
