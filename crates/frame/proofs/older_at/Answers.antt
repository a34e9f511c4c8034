-- `older_at`: a candidate is one by its row and by its column.
use mathlib.Core.Path.{◌≡◌, sym, ◌∙◌}
use mir.Facts.{to_z-of_z}
use Rattle.frame.specs.Candidates.{part_at, older_parts}
use Rattle.frame.proofs.older_at.Goals as goal
use Rattle.frame.proofs.older_at.Goals.{After-part_at, After-part_at-2}

-- what the two calls answer
down : (c : After-part_at) → let a = c.args in c.part_at.result ≡ part_at a.y a.dy a.w a.s.n a.s.height
down c = rw (to_z-of_z c.ranges.dy) at c.part_at.ensures

across : (c : After-part_at-2) →
    let a = c.args in
    c.part_at-2.result ≡ part_at a.x a.dx a.w a.s.n a.s.width
across c = rw (to_z-of_z c.ranges.dx) at c.part_at-2.ensures

pub returns-in_err-row : goal.returns-in_err-row
returns-in_err-row c = c.from_residual.ensures ∙ sym (rw (older_parts, ← (down (goal.at.returns-in_err-row c).After-part_at), c.in_err-row.was))

pub returns-in_err-column : goal.returns-in_err-column
returns-in_err-column c =
    c.from_residual-in_err-column.ensures ∙ sym (rw (older_parts, ← (down (goal.at.returns-in_err-column c).After-part_at), c.in_ok-row.was, ← (across (goal.at.returns-in_err-column c).After-part_at-2), c.in_err-column.was))

pub returns : goal.returns
returns c =
    rw (older_parts, ← (down (goal.at.returns c).After-part_at), c.in_ok-row.was, ← (across (goal.at.returns c).After-part_at-2), c.in_ok-column.was)
