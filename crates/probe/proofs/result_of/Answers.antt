-- `result_of`: the parts are read back without their 16.
use borrow.Author.Rules.{sfits_of}
use mir.Facts.{to_z-of_z}
use Rattle.probe.specs.BestSoFar.{result_of}
use mir.Syntax.{w32}
use Rattle.probe.proofs.result_of.Goals as goal

pub returns : goal.returns
unfolding result_of
returns c =
    rw (to_z-of_z (sfits_of {w = w32} c.unbiased.type_inv), to_z-of_z (sfits_of {w = w32} c.unbiased-2.type_inv), c.unbiased.ensures, c.unbiased-2.ensures, c.only_at_one.ensures)
