-- `vector_at`: the flat table has the parts of the k-th vector at 2 k and 2 k + 1, and each comes back from its bits unchanged.
use mathlib.Core.Path.{ap₂, ◌∙◌}
use borrow.Author.Rules.{sfits_of}
use mir.Syntax.{w32}
use mir.Facts.{to_z-of_z}
use Rattle.order.specs.Vectors.{vec}
use Rattle.order.proofs.Flat.{at_dy, at_dx}
use Rattle.order.proofs.vector_at.Goals as goal

pub returns : goal.returns
returns c =
    let g = c.before.dy-1.given in
    let h = c.dx-1.given in
    let k = c.before.before.args.k in
    let e = c.before.before.requires.0 in
    ap₂ vec
    (to_z-of_z (sfits_of {w = w32} g) ∙ at_dy k e)
    (to_z-of_z (sfits_of {w = w32} h) ∙ at_dx k e)
