-- `distortion_from`: the frames are cut where the blocks begin; each kernel is a measure and an allowed N, whose N rows are N / 4 groups of four, or of 32
-- eight groups of two halves.
use Prim.Native.Nat.{◌≤◌}
use mathlib.Core.Path.{◌≡◌, refl, ap}
use native.Mathlib.Omega.{arith}
use lib.ListN.{length}
use Rattle.distortion.specs.Blocks.{size_by}
use Rattle.distortion.proofs.Rows.{block_begins, by_four, block_sum, block_halves, last_absolute, last_squares}
use Rattle.distortion.proofs.distortion_from.Goals as goal
use Rattle.distortion.proofs.distortion_from.Goals.{Else-kernel-eq4, Else-kernel-eq68, Start}

-- the kernel that is left on either side
left-1 : (c : Else-kernel-eq4) → c.args.kernel ≡ 32
left-1 c =
    last_absolute _ c.if-kernel-lt64.true c.requires.1.allowed c.if-kernel-eq16.false c.if-kernel-eq8.false c.if-kernel-eq4.false

left-2 : (c : Else-kernel-eq68) → c.args.kernel ≡ 96
left-2 c =
    last_squares _ c.if-kernel-lt64.false c.requires.0 c.requires.1.allowed c.if-kernel-eq80.false c.if-kernel-eq72.false c.if-kernel-eq68.false

-- both blocks begin inside their frames
firsts : (s : Start) → let a = s.args in (a.a ≤ length a.newer.now) × (a.b ≤ length a.older.now)
firsts s = block_begins _ _ _ _ _ _ s.requires.1

pub slice_bounds-here-count : goal.slice_bounds-here-count
slice_bounds-here-count c = (firsts (goal.at.slice_bounds-here-count c).Start).0

pub slice_bounds-here-start : goal.slice_bounds-here-start
slice_bounds-here-start c = (firsts (goal.at.slice_bounds-here-start c).Start).0

pub slice_bounds-there-count : goal.slice_bounds-there-count
slice_bounds-there-count c = (firsts (goal.at.slice_bounds-there-count c).Start).1

pub slice_bounds-there-start : goal.slice_bounds-there-start
slice_bounds-there-start c = (firsts (goal.at.slice_bounds-there-start c).Start).1

pub rows_by_four-requires : goal.rows_by_four-requires
rows_by_four-requires c = by_four _ _ _ _ _ _ 16 4 c.requires.1 (ap size_by c.if-kernel-eq16.true) refl (omega arith)

pub returns-then-kernel-eq16 : goal.returns-then-kernel-eq16
returns-then-kernel-eq16 c = rw c.if-kernel-eq16.true (block_sum 1 _ _ _ _ 16 _ _ 16 4 _ refl refl (omega arith) c.rows_by_four.ensures)

pub rows_by_four-requires-then-kernel-eq8 : goal.rows_by_four-requires-then-kernel-eq8
rows_by_four-requires-then-kernel-eq8 c = by_four _ _ _ _ _ _ 8 2 c.requires.1 (ap size_by c.if-kernel-eq8.true) refl (omega arith)

pub returns-then-kernel-eq8 : goal.returns-then-kernel-eq8
returns-then-kernel-eq8 c = rw c.if-kernel-eq8.true (block_sum 1 _ _ _ _ 8 _ _ 8 2 _ refl refl (omega arith) c.rows_by_four-then-kernel-eq8.ensures)

pub rows_by_four-requires-then-kernel-eq4 : goal.rows_by_four-requires-then-kernel-eq4
rows_by_four-requires-then-kernel-eq4 c = by_four _ _ _ _ _ _ 4 1 c.requires.1 (ap size_by c.if-kernel-eq4.true) refl (omega arith)

pub returns-then-kernel-eq4 : goal.returns-then-kernel-eq4
returns-then-kernel-eq4 c = rw c.if-kernel-eq4.true (block_sum 1 _ _ _ _ 4 _ _ 4 1 _ refl refl (omega arith) c.rows_by_four-then-kernel-eq4.ensures)

pub rows_by_halves-requires : goal.rows_by_halves-requires
rows_by_halves-requires c = by_four _ _ _ _ _ _ 32 8 c.requires.1 (ap size_by (left-1 c)) refl (omega arith)

pub returns-then-kernel-lt64 : goal.returns-then-kernel-lt64
returns-then-kernel-lt64 c = rw (left-1 (goal.at.returns-then-kernel-lt64 c).Else-kernel-eq4) (block_halves 1 _ _ _ _ 32 _ _ _ refl c.rows_by_halves.ensures)

pub rows_by_four-requires-then-kernel-eq80 : goal.rows_by_four-requires-then-kernel-eq80
rows_by_four-requires-then-kernel-eq80 c = by_four _ _ _ _ _ _ 16 4 c.requires.1 (ap size_by c.if-kernel-eq80.true) refl (omega arith)

pub returns-then-kernel-eq80 : goal.returns-then-kernel-eq80
returns-then-kernel-eq80 c = rw c.if-kernel-eq80.true (block_sum 2 _ _ _ _ 16 _ _ 16 4 _ refl refl (omega arith) c.rows_by_four-then-kernel-eq80.ensures)

pub rows_by_four-requires-then-kernel-eq72 : goal.rows_by_four-requires-then-kernel-eq72
rows_by_four-requires-then-kernel-eq72 c = by_four _ _ _ _ _ _ 8 2 c.requires.1 (ap size_by c.if-kernel-eq72.true) refl (omega arith)

pub returns-then-kernel-eq72 : goal.returns-then-kernel-eq72
returns-then-kernel-eq72 c = rw c.if-kernel-eq72.true (block_sum 2 _ _ _ _ 8 _ _ 8 2 _ refl refl (omega arith) c.rows_by_four-then-kernel-eq72.ensures)

pub rows_by_four-requires-then-kernel-eq68 : goal.rows_by_four-requires-then-kernel-eq68
rows_by_four-requires-then-kernel-eq68 c = by_four _ _ _ _ _ _ 4 1 c.requires.1 (ap size_by c.if-kernel-eq68.true) refl (omega arith)

pub returns-then-kernel-eq68 : goal.returns-then-kernel-eq68
returns-then-kernel-eq68 c = rw c.if-kernel-eq68.true (block_sum 2 _ _ _ _ 4 _ _ 4 1 _ refl refl (omega arith) c.rows_by_four-then-kernel-eq68.ensures)

pub rows_by_halves-requires-2 : goal.rows_by_halves-requires-2
rows_by_halves-requires-2 c = by_four _ _ _ _ _ _ 32 8 c.requires.1 (ap size_by (left-2 c)) refl (omega arith)

pub returns : goal.returns
returns c = rw (left-2 (goal.at.returns c).Else-kernel-eq68) (block_halves 2 _ _ _ _ 32 _ _ _ refl c.rows_by_halves-2.ensures)
