-- `stays`: both parts are alike.
use borrow.Author.Tests.{eq-eqb, ne_eqb}
use Rattle.probe.proofs.Looks.{part_same}
use Rattle.four_step.proofs.stays.Goals as goal

pub returns-then-s-centre : goal.returns-then-s-centre
returns-then-s-centre c = let a = c.args in rw (← (part_same a.s.at.y a.centre.y), ← (part_same a.s.at.x a.centre.x), eq-eqb _ _ c.if-s-centre.true)

pub returns-else-s-centre : goal.returns-else-s-centre
returns-else-s-centre c = let a = c.args in rw (← (part_same a.s.at.y a.centre.y), ne_eqb _ _ c.if-s-centre.false)
