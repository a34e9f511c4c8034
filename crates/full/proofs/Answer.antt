-- What the least key holds: row and column of the exhaustive best, and its distortion.
use Prim.Native.Nat.{ℕ, ◌/◌, ◌%◌, ◌≤◌, ◌<◌}
use mathlib.Core.Path.{◌≡◌, ap, subst}
use mathlib.Core.List.{List}
use Rattle.order.specs.declared.Vector.{Vector}
use Rattle.frame.specs.Pictures.{pair_of}
use Rattle.frame.specs.declared.SearchBlock.{SearchBlock}
use Rattle.distortion.specs.Blocks.{distortion}
use Rattle.search.specs.Exhaustive.{best, grid_vector}
use Rattle.reach.specs.Reach.{Standing, reach}
use Rattle.reach.proofs.Candidates.{reach_small}
use Rattle.reach.proofs.Keys.{key_parts}
use Rattle.reach.proofs.Choice.{least_key}
use Rattle.full.specs.Rows.{key_at, LeastKey}

module _ (older newer : List ℕ) (b : SearchBlock) where
  abbrev best_of : Vector
  best_of = best (pair_of older newer b.setting) b.w b.y b.x

  abbrev cost : Vector → ℕ
  cost = distortion (pair_of older newer b.setting) b.y b.x

  pub record Found (key : ℕ) : Type 0 where
    pub row : key / 64 % 64 < 33
    pub column : key % 64 < 33
    pub is : grid_vector (key / 64 % 64) (key % 64) ≡ best_of
    pub distortion_is : key / 262144 ≡ cost best_of

  pub found : (key : ℕ) → Standing b → LeastKey (key_at older newer b) (reach b) key → Found key
  unfolding best
  found key t e =
      let o = e.some in
      let small = reach_small b t o.0 o.1 o.2 in
      let parts = key_parts o.0 o.1 small.0 small.1 (cost (grid_vector o.0 o.1)) in
      let least = least_key b t cost o.0 o.1 o.2 (λ m n h. subst (λ (q : ℕ). q ≤ key_at older newer b m n) o.3 (e.least m n h)) in
      record {
        row = rw (o.3, parts.1) small.0;
        column = rw (o.3, parts.2) small.1;
        is = rw (o.3, parts.1, parts.2) least;
        distortion_is = rw (o.3, parts.0) (ap cost least);
      }
