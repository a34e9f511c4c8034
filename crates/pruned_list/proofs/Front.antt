-- The listed keys, cut off the front of an array, have the least and the spots that the first count of the array has.
use Prim.Native.Nat.{ℕ, ◌≤◌, ◌<◌}
use mathlib.Core.Path.{◌≡◌, ap}
use mathlib.Core.List.{List}
use native.Mathlib.Omega.{arith}
use lib.ListN.{length, take}
use lib.Seq.{take_all, length-take-le, get_or-take}
use Rattle.base.specs.Least.{least_of}
use Rattle.base.specs.Lists.{list_to_ext}
use Rattle.order.specs.declared.Vector.{Vector}
use Rattle.frame.specs.declared.SearchBlock.{SearchBlock}
use Rattle.pruned_list.specs.Listed.{nearest_key, measured_key, least_measured, SpotsIn}

module _ (keys : List ℕ) (n : ℕ) (h : n ≤ length keys) where
  abbrev pub front : List ℕ
  front = take n keys

  pub front_nearest : nearest_key front (length front) ≡ nearest_key keys n
  unfolding nearest_key
  front_nearest = ap (least_of (λ key. key)) (take_all (length front) front (omega arith))

  pub front_measured : (cost : Vector → ℕ) → least_measured cost front (length front) ≡ least_measured cost keys n
  front_measured cost =
      rw (length-take-le n keys h) (ap (least_of (λ k. k)) (list_to_ext _ _ n (λ i l. ap (measured_key cost) (get_or-take n keys i 0 l))))

  pub front_spots : (b : SearchBlock) → SpotsIn b keys n → SpotsIn b front (length front)
  front_spots b s i l =
      let k : i < n = rw (length-take-le n keys h) at l in
      rw (get_or-take n keys i 0 k) (s i k)
