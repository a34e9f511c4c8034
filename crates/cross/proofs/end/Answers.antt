-- `end`: the table is the cross (+), or a pass at 1 is made.
use lib.Dec.{lit≤}
use Rattle.probe.specs.Probe.{widened}
use Rattle.probe.specs.BestSoFar.{pairs}
use Rattle.probe.proofs.Probe.{all?}
use Rattle.probe.proofs.Looks.{pattern?, pattern_yes}
use Rattle.cross.specs.Cross.{diagonal_cross, plus_cross, pass, ended}
use Rattle.cross.proofs.end.Goals as goal

pub pattern-requires : goal.pattern-requires
unfolding pattern? pairs all?
pattern-requires c = (c.requires, pattern_yes _ tt, lit≤ tt)

pub returns-then-plus_cross : goal.returns-then-plus_cross
unfolding ended plus_cross widened pairs
returns-then-plus_cross c = rw c.if-plus_cross.true c.pattern.ensures

pub pass_at-requires : goal.pass_at-requires
pass_at-requires c = (c.requires, lit≤ tt)

pub returns : goal.returns
unfolding ended pass diagonal_cross widened
returns c = rw c.if-plus_cross.false c.pass_at.ensures
