-- `side_ok`: the two tests of the definition, in its order.
use borrow.Author.Tests.{le-leb, lt-leb}
use Rattle.refusals.proofs.side_ok.Goals as goal

pub returns-then-a-lt4 : goal.returns-then-a-lt4
returns-then-a-lt4 c = rw (lt-leb _ _ c.if-a-lt4.true)

pub returns : goal.returns
returns c = rw (le-leb 4 _ c.if-a-lt4.false)
