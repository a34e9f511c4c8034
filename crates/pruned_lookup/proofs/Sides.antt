-- The side of the boxes that are looked up, and the distance there.
--   side_whole     16 for 32; side_other: m itself for any other
--   box-whole      the distance at 32 is of whole blocks; box_other: at any other m of all squares
use Prim.Native.Nat.{ℕ}
use mathlib.Core.Path.{◌≡◌}
use mathlib.Core.List.{List}
use borrow.Author.Tests.{eq-eqb, ne_eqb}
use Rattle.boxes.specs.declared.Level.{Level}
use Rattle.pruned_lookup.specs.Lookup.{box_rows, box_whole, side_of, box_distance}

pub side_whole : (m : ℕ) → m ≡ 32 → 16 ≡ side_of m
unfolding side_of
side_whole m e = rw (eq-eqb m 32 e)

pub side_other : (m : ℕ) → (m ≡ 32 → ⊥) → m ≡ side_of m
unfolding side_of
side_other m h = rw (ne_eqb m 32 h)

pub box-whole : (measure : ℕ) (boxes : List ℕ) (m : ℕ) (l : Level) (t : ℕ) → m ≡ 32 → box_whole measure boxes l t ≡ box_distance measure boxes m l t
unfolding box_distance
box-whole measure boxes m l t e = rw (eq-eqb m 32 e)

pub box_other : (measure : ℕ) (boxes : List ℕ) (m : ℕ) (l : Level) (t : ℕ) → (m ≡ 32 → ⊥) → box_rows measure boxes l t ≡ box_distance measure boxes m l t
unfolding box_distance
box_other measure boxes m l t h = rw (ne_eqb m 32 h)
