-- Sums of squares of numbers.
--   box_one      one number
--   box_parts    a box of k m is k × k boxes of m side by side
--   box_double   a box of 2m is four boxes of m
--   box_most     what it is at most
--   box_ext      equal numbers make equal boxes
use Prim.Native.Nat.{ℕ, ◌+◌, ◌*◌, ◌≤◌, ◌<◌}
use mathlib.Core.Path.{◌≡◌, sym, ap, ◌∙◌}
use native.Mathlib.Nat.{add-mul, mul_comm, zero-mul, one-mul}
use native.Mathlib.Omega.{arith}
use Rattle.base.specs.Sum.{sum_to, sum_over, sum_over_ext, sum_over_bound, sum_over_group}
use Rattle.boxes.specs.Boxes.{box}

module _ (f : ℕ → ℕ) (pitch : ℕ) where
  pub box_one : (t : ℕ) → box f pitch 1 t ≡ f t
  unfolding box sum_to
  box_one t = let e : t + 0 * pitch + 0 ≡ t = omega (arith, zero-mul pitch) in omega (arith, ap f e)

  pub box_parts : (k m t : ℕ) → sum_over k k (λ p q. box f pitch m (t + p * m * pitch + q * m)) ≡ box f pitch (k * m) t
  unfolding box
  box_parts k m t =
      sym
      (sum_over_group k m (λ p q. f (t + p * pitch + q))
      ∙ sum_over_ext k k _ _ (λ p q hp hq. sum_over_ext m m _ _ (λ i j hi hj. ap f (place p q i j))))
    where
      place : (p q i j : ℕ) → t + (p * m + i) * pitch + (q * m + j) ≡ t + p * m * pitch + q * m + i * pitch + j
      place p q i j = omega (arith, add-mul (p * m) i pitch)

  pub box_double : (m t : ℕ) → box f pitch (2 * m) t
      ≡ box f pitch m t + box f pitch m (t + m) + (box f pitch m (t + pitch * m) + box f pitch m (t + pitch * m + m))
  unfolding sum_to
  box_double m t =
      let z = zero-mul m in
      let y = zero-mul pitch in
      let o = one-mul m in
      let a : t + 0 * m * pitch + 0 * m ≡ t = rw (z, y) (omega arith) in
      let b : t + 0 * m * pitch + 1 * m ≡ t + m = rw (z, y, o) (omega arith) in
      let c : t + 1 * m * pitch + 0 * m ≡ t + pitch * m = rw (o, z, mul_comm m pitch) (omega arith) in
      let d : t + 1 * m * pitch + 1 * m ≡ t + pitch * m + m = rw (o, mul_comm m pitch) (omega arith) in
      sym (box_parts 2 m t)
      ∙ omega (arith, ap (box f pitch m) a, ap (box f pitch m) b, ap (box f pitch m) c, ap (box f pitch m) d)

  pub box_most : (c m t : ℕ) → ((p q : ℕ) → p < m → q < m → f (t + p * pitch + q) ≤ c) → box f pitch m t ≤ m * (m * c)
  unfolding box
  box_most c m t h = sum_over_bound c m m _ h

  pub box_ext : (g : ℕ → ℕ) (m t : ℕ) → ((p q : ℕ) → p < m → q < m → f (t + p * pitch + q) ≡ g (t + p * pitch + q))
      → box f pitch m t ≡ box g pitch m t
  unfolding box
  box_ext g m t h = sum_over_ext m m _ _ h
