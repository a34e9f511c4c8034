-- `differs`: at column j, after so many pairs of rows, the place is j in the next row; least and most are the smallest and the largest of the column's
-- pels before, low and high those of the columns before (`Seen`).
use Prim.Native.Nat.{◌+◌, ◌*◌}
use mathlib.Core.Path.{◌≡◌}
use Rattle.distortion.specs.Blocks.{block_at}
use Rattle.voter.proofs.Walk.{Seen, column, Columns}
use Rattle.voter.proofs.differs.Given as goal

abbrev pub invariant-loop-pair : goal.invariant-loop-pair
invariant-loop-pair g l =
    let b = block_at l.newer l.width 0 0 in
    (l.p ≡ 2 * l._pair * l.width + l.j) × Seen (column g.row.N b l.j) (column g.row.N b l.j) (2 * l._pair) l.least l.most

abbrev pub invariant-loop-j : goal.invariant-loop-j
invariant-loop-j g l = Columns g.row.N (block_at l.newer l.width 0 0) l.j l.low l.high
