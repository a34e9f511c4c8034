-- `by_columns`: in reach the strips have the keys of the frames, so the least by the strips is the least.
use Prim.Native.Nat.{ℕ, ◌+◌, ◌*◌, ◌≤◌}
use mathlib.Core.Path.{◌≡◌, refl, sym, ap₂, ◌∙◌}
use native.Mathlib.Omega.{arith}
use mathlib.Core.List.{List}
use lib.ListN.{length, replicate}
use Rattle.distortion.specs.Blocks.{Kernel, kernel_of, kernel_is, begins, block-inside}
use Rattle.search.specs.Target.{Ready}
use Rattle.frame.specs.declared.SearchBlock.{SearchBlock}
use Rattle.reach.specs.Reach.{reach, InReach}
use Rattle.reach.proofs.Candidates.{ready_standing}
use Rattle.full.specs.Rows.{window_copy, key_at}
use Rattle.full.specs.Columns.{block_twice, key_by_column}
use Rattle.full.proofs.Reached.{least_same}
use Rattle.full.proofs.Copies.{window_copy_long}
use Rattle.full.proofs.Strips.{twice_long, twice_is, key-in-strip}
use Rattle.full.proofs.Ready.{at_its_place, size, around, middle}
use Rattle.full.proofs.by_columns.Goals as goal
use Rattle.full.proofs.by_columns.Goals.{After-copy_rows-2, Start}

-- N is 8, and the measure that of absolute differences
eight : (older newer : List ℕ) (b : SearchBlock) → Ready older newer b → kernel_of b.setting.measure b.setting.n ≡ 8
    → Kernel b.setting.measure b.setting.n 8
eight older newer b r e = kernel_is (sym e) r.placed.paired.allowed

window-is : (k : After-copy_rows-2) → let a = k.args in
    k.copy_window.new.window ≡ window_copy a.matching.older.now a.matching.block (replicate 4096 0)
window-is k = k.copy_window.ensures

block-is : (k : After-copy_rows-2) → let a = k.args in k.copy_rows-2.new.copy ≡ block_twice a.matching.newer.now a.matching.block (replicate 128 0)
block-is k = rw k.copy_rows.ensures at k.copy_rows-2.ensures

-- in reach they have the keys of the frames
keys : (k : After-copy_rows-2) (i j : ℕ) → let a = k.args in InReach (reach a.matching.block) i j
    → key_by_column k.copy_window.new.window k.copy_rows-2.new.copy i j ≡ key_at a.matching.older.now a.matching.newer.now a.matching.block i j
keys k i j h =
    let e = eight _ _ _ k.args.matching.ready k.requires.2 in
    ap₂ (λ (w v : List ℕ). key_by_column w v i j) (window-is k) (block-is k)
    ∙ key-in-strip _ _ _ refl _ (ready_standing _ _ _ k.args.matching.ready) _ refl (sym e.size) (sym e.measure_is) i j h

pub copy_window-requires : goal.copy_window-requires
copy_window-requires c =
    (ready_standing _ _ _ c.args.matching.ready, size _ _ _ c.args.matching.ready, omega (arith, c.args.matching.ready.placed.paired.older_whole), c.requires.0, refl)

-- eight rows of the block lie inside its frame
inside : (s : Start) → let b = s.args.matching.block in let width = b.setting.width in
    b.y * width + b.x + 8 * width + 8 ≤ length s.args.matching.newer.now + width
inside s =
    rw (← (eight _ _ _ s.args.matching.ready s.requires.2).size) at (block-inside _ _ _ _ _ _ _ (at_its_place _ _ _ s.args.matching.ready)).in_newer

pub overflow_mul-here : goal.overflow_mul-here
overflow_mul-here c = omega (arith, (begins _ _ _ _ _ _ _ (at_its_place _ _ _ c.args.matching.ready)).0)

pub overflow_add-here : goal.overflow_add-here
overflow_add-here c = omega (arith, (begins _ _ _ _ _ _ _ (at_its_place _ _ _ c.args.matching.ready)).0)

pub copy_rows-requires : goal.copy_rows-requires
copy_rows-requires c =
    (inside (goal.at.copy_rows-requires c).Start, omega arith, c.args.matching.ready.placed.paired.fitting.wide, omega arith, omega arith, omega arith)

pub copy_rows-requires-2 : goal.copy_rows-requires-2
copy_rows-requires-2 c =
    (inside (goal.at.copy_rows-requires-2 c).Start, omega (arith, c.copy_rows.auto.copy), c.args.matching.ready.placed.paired.fitting.wide, omega arith, omega arith, omega (arith, c.copy_rows.auto.copy))

pub columns_least-requires : goal.columns_least-requires
columns_least-requires c =
    let a = c.args in
    let p = c.requires in (
      rw (window-is (goal.at.columns_least-requires c).After-copy_rows-2) (window_copy_long a.matching.older.now a.matching.block (ready_standing _ _ _ c.args.matching.ready) (size _ _ _ c.args.matching.ready) (replicate 4096 0) refl),
      rw (block-is (goal.at.columns_least-requires c).After-copy_rows-2) (twice_long a.matching.newer.now a.matching.block (replicate 128 0) refl),
      rw (block-is (goal.at.columns_least-requires c).After-copy_rows-2) (twice_is a.matching.newer.now a.matching.block (replicate 128 0) refl),
      rw p.0 (around _ _ _ c.args.matching.ready),
      p.1 ∙ sym (keys (goal.at.columns_least-requires c).After-copy_rows-2 16 16 (middle _ _ _ c.args.matching.ready)),
    )

pub returns : goal.returns
returns c = least_same _ _ _ _ (keys (goal.at.returns c).After-copy_rows-2) (rw c.requires.0 at c.columns_least.ensures)
