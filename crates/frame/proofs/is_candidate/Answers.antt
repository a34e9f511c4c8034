-- `is_candidate`: the older block stands somewhere just where the vector is a candidate.
use mathlib.Core.Path.{ap, ◌∙◌}
use mir.Facts.{to_z-of_z}
use Rattle.std.specs.Prelude.{is_some}
use Rattle.order.specs.Vectors.{vec}
use Rattle.frame.specs.Candidates.{older_some}
use Rattle.frame.proofs.is_candidate.Goals as goal

pub returns : goal.returns
returns c =
    let a = c.args in
    c.is_some.ensures ∙ ap is_some (rw (to_z-of_z c.ranges.dy, to_z-of_z c.ranges.dx) at c.older_at.ensures) ∙ older_some a.s a.w a.y a.x (vec a.dy a.dx)
