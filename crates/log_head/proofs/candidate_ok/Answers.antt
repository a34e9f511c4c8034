-- `candidate_ok`: the block's place, then the candidate's test.
use mir.Facts.{to_z-of_z}
use Rattle.log_head.proofs.candidate_ok.Goals as goal

pub returns : goal.returns
returns c =
    rw (← c.block_row-row.ensures, ← c.block_column-column.ensures)
    (rw (to_z-of_z c.ranges.dy, to_z-of_z c.ranges.dx) at c.is_candidate.ensures)
