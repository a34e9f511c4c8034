-- `against`: the two parts are the point, and the ceiling is the least so far.
use borrow.Author.Rules.{sfits_of}
use mir.Facts.{to_z-of_z}
use mir.Syntax.{w32}
use Rattle.probe.proofs.against.Goals as goal

pub returns : goal.returns
returns c =
    rw (
      to_z-of_z (sfits_of {w = w32} c.unbiased-dy.type_inv),
      to_z-of_z (sfits_of {w = w32} c.unbiased-dx.type_inv),
      c.unbiased-dy.ensures,
      c.unbiased-dx.ensures,
    ) at c.measure_candidate.ensures
