-- `neighbour`: the table has the nine offsets, each part with 1 added.
use Prim.Native.Nat.{ℕ, ◌≤◌, ◌<◌}
use mathlib.Core.Path.{◌≡◌}
use mathlib.Core.Bool.{Bool, ◌&&◌}
use mathlib.Core.List.{[], ◌∷◌}
use lib.Dec.{leb, leb→le}
use lib.ListN.{get_or}
use Rattle.base.specs.Tests.{and_left, and_right, T_true, check_below}
use Rattle.signed.specs.Values.{unbias}
use Rattle.order.specs.Vectors.{same?, same_yes}
use Rattle.half_search.specs.declared.Offset.{Offset}
use Rattle.half_search.specs.Half.{neighbour_count, neighbour}
use Rattle.half_search.specs.Steps.{offset_of}
use Rattle.half_search.proofs.neighbour.Goals as goal

abbrev at : ℕ → ℕ → Offset
at down across = record { down = down; across = across }

abbrev entry : ℕ → Offset
entry k = get_or (at 1 1 ∷ at 0 1 ∷ at 1 0 ∷ at 1 2 ∷ at 2 1 ∷ at 0 0 ∷ at 0 2 ∷ at 2 0 ∷ at 2 2 ∷ []) k (at 0 0)

abbrev right? : ℕ → Bool
right? k = same? (offset_of (entry k)) (neighbour k) && (leb (entry k).down 2 && leb (entry k).across 2)

right : (k : ℕ) → k < neighbour_count → (offset_of (entry k) ≡ neighbour k) × ((entry k).down ≤ 2) × ((entry k).across ≤ 2)
unfolding unbias
right k h =
    let is = same? (offset_of (entry k)) (neighbour k) in
    let down = leb (entry k).down 2 in
    let across = leb (entry k).across 2 in
    let r = check_below right? neighbour_count tt k h in
    let s = and_right is (down && across) r in
    (same_yes _ _ (T_true is (and_left is (down && across) r)), leb→le _ 2 (and_left down across s), leb→le _ 2 (and_right down across s))

pub returns : goal.returns
returns c = right c.args.k c.requires
