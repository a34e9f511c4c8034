-- `measure_ok`: the two tests of the definition, in its order.
use borrow.Author.Tests.{le-leb, lt-leb}
use Rattle.measures.proofs.measure_ok.Goals as goal

pub returns-then-measure-lt-ABSOLUTE : goal.returns-then-measure-lt-ABSOLUTE
returns-then-measure-lt-ABSOLUTE c = rw (lt-leb _ _ c.if-measure-lt-ABSOLUTE.true)

pub returns : goal.returns
returns c = rw (le-leb 1 _ c.if-measure-lt-ABSOLUTE.false)
