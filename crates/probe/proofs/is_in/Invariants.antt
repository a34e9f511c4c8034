-- `is_in`: a point that none of the offsets passed leads to is among those that the others lead to.
use Rattle.probe.proofs.Looks.{Missing}
use Rattle.probe.proofs.is_in.Given as goal

abbrev pub invariant-loop-dy : goal.invariant-loop-dy
invariant-loop-dy l = Missing l.at.y l.at.x l.centre.y l.centre.x l.offsets l.dy-index
