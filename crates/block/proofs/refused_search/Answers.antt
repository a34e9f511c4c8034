-- `refused_search`: the number, and zeros.
use Rattle.block.proofs.refused_search.Goals as goal

pub returns : goal.returns
returns c = rw (c.into.ensures, c.only_at_one.ensures)
