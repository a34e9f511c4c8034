-- `pass_at`: the table is the cross (X).
use Rattle.probe.specs.BestSoFar.{pairs}
use Rattle.probe.proofs.Probe.{all?}
use Rattle.probe.proofs.Looks.{pattern?, pattern_yes}
use Rattle.cross.specs.Cross.{diagonal_cross, pass}
use Rattle.cross.proofs.pass_at.Goals as goal

pub pattern-requires : goal.pattern-requires
unfolding pattern? pairs all?
pattern-requires c = let q = c.requires in (q.0, pattern_yes _ tt, q.1)

pub returns : goal.returns
unfolding pass diagonal_cross pairs
returns c = c.pattern.ensures
