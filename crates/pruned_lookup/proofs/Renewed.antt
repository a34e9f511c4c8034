-- An array whose front holds the keys of some spots in reach: what `fill` asks of it, and what it leaves.
--   listed_reach       the spot of each key is in reach
--   listed_distances   the keys of the same spots, with their distances at m
use Prim.Native.Nat.{ℕ, ◌/◌, ◌%◌, ◌≤◌, ◌<◌}
use mathlib.Core.Path.{◌≡◌, refl, sym, ap, ◌∙◌}
use mathlib.Core.List.{List}
use lib.ListN.{length, get_or, take}
use lib.Seq.{get_or-take}
use Rattle.base.specs.Least.{◌∈◌, get_d_mem}
use Rattle.order.specs.declared.Vector.{Vector}
use Rattle.frame.specs.declared.Region.{Region}
use Rattle.frame.specs.declared.SearchBlock.{SearchBlock}
use Rattle.reach.specs.Reach.{reach, InReach}
use Rattle.pruned_rule.specs.Spots.{key_on}
use Rattle.boxes.specs.Boxes.{Boxed}
use Rattle.boxes.specs.Distances.{distance_to}
use Rattle.pruned_list.specs.Listed.{keys_of, spot_of}
use Rattle.pruned_list.proofs.Listed.{OnGrid, spot_on, keys_at, listed_many, renewed_listed}
use Rattle.pruned_lookup.specs.Lookup.{Distanced}

module _ (old : Vector → ℕ) (ts keys : List ℕ) (count : ℕ) (few : count ≤ length keys) (e : take count keys ≡ keys_of old ts) (g : OnGrid ts) where
  pub listed_reach : (r : Region) → ((t : ℕ) → t ∈ ts → InReach r (t / 64) (t % 64))
      → (i : ℕ) → i < count → InReach r (spot_of (get_or keys i 0) / 64) (spot_of (get_or keys i 0) % 64)
  listed_reach r near i l =
      let many = listed_many old ts keys count few e in
      let t = get_or ts i 0 in
      let m = get_d_mem ts i (rw many l) in
      let there : get_or keys i 0 ≡ key_on old t = sym (get_or-take count keys i 0 l) ∙ ap (λ (ks : List ℕ). get_or ks i 0) e ∙ keys_at old ts i (rw many l) in
      rw (there, spot_on old t (g t m)) (near t m)

  pub listed_distances : (older newer : List ℕ) (b : SearchBlock) (boxes : List ℕ) (measure m : ℕ) (after : List ℕ) → Boxed older newer b boxes
      → Distanced measure boxes b.setting.n m (reach b) keys count after → take count after ≡ keys_of (distance_to older newer b measure m) ts
  listed_distances older newer b boxes measure m after k d =
      renewed_listed old (distance_to older newer b measure m) ts keys after count few e g (d older newer b k refl refl)
