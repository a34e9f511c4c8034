-- What a block that is ready to be searched has.
--   at_its_place   the older block at its own place, to be compared with it
--   size           N is at most 32
--   around         its reach is around the middle; middle: (0,0) stands in it
use Prim.Native.Nat.{ℕ, ◌≤◌}
use mathlib.Core.List.{List}
use Rattle.refusals.specs.Refusals.{block_size}
use Rattle.frame.specs.declared.SearchBlock.{SearchBlock}
use Rattle.distortion.specs.Blocks.{Comparable}
use Rattle.search.specs.Target.{Ready}
use Rattle.reach.specs.Reach.{reach, InReach}
use Rattle.reach.proofs.Candidates.{Bounds, ready_standing, reach_bounds}
use Rattle.full.specs.Rows.{Around}

module _ (older newer : List ℕ) (b : SearchBlock) (ready : Ready older newer b) where
  pub at_its_place : Comparable older newer b.setting b.y b.x b.y b.x
  at_its_place = let p = ready.placed in record { placed = p; down = p.down; across = p.across }

  pub size : b.setting.n ≤ 32
  size = (block_size _ ready.placed.paired.allowed).most

  bounds : Bounds b (reach b)
  bounds = reach_bounds b (ready_standing older newer b ready)

  pub around : Around (reach b)
  around =
      let k = bounds in
      record { above = k.above; below = k.below; few_rows = k.few_rows; before = k.before; behind = k.behind; few_columns = k.few_columns }

  pub middle : InReach (reach b) 16 16
  middle = let k = bounds in record { top = k.above; bottom = k.below; left = k.before; right = k.behind }
