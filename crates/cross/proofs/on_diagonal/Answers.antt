-- `on_diagonal`: the table is the three points of step 6.
use lib.Dec.{lit≤}
use Rattle.probe.specs.BestSoFar.{pairs}
use Rattle.cross.specs.Cross.{diagonal, on_diagonal}
use Rattle.cross.proofs.on_diagonal.Goals as goal

pub is_in-requires : goal.is_in-requires
is_in-requires c = lit≤ tt

pub returns : goal.returns
unfolding on_diagonal diagonal pairs
returns c = c.is_in.ensures
