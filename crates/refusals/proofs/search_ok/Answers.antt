-- `search_ok`: the two tests of the definition, in its order.
use borrow.Author.Tests.{le-leb, lt-leb}
use Rattle.refusals.proofs.search_ok.Goals as goal

pub returns-then-search-lt1 : goal.returns-then-search-lt1
returns-then-search-lt1 c = rw (lt-leb _ _ c.if-search-lt1.true)

pub returns : goal.returns
returns c = rw (le-leb 1 _ c.if-search-lt1.false)
