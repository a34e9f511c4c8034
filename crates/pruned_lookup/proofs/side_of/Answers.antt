-- `side_of`: by its test.
use Rattle.pruned_lookup.proofs.Sides.{side_whole, side_other}
use Rattle.pruned_lookup.proofs.side_of.Goals as goal

pub returns-then-m-eq32 : goal.returns-then-m-eq32
returns-then-m-eq32 c = side_whole _ c.if-m-eq32.true

pub returns : goal.returns
returns c = side_other _ c.if-m-eq32.false
