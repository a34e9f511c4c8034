-- `block_ok`: the three tests of the definition, in its order.
use borrow.Author.Tests.{le-leb, lt-leb}
use Rattle.base.specs.Tests.{told}
use Rattle.refusals.proofs.block_ok.Goals as goal

pub returns-then-not-block_size_ok : goal.returns-then-not-block_size_ok
returns-then-not-block_size_ok c = rw (told c.block_size_ok.ensures c.if-not-block_size_ok.true)

pub returns-then-s : goal.returns-then-s
returns-then-s c =
    rw (told c.block_size_ok.ensures c.if-not-block_size_ok.false, lt-leb _ _ c.if-s.true)

pub returns : goal.returns
returns c =
    rw (told c.block_size_ok.ensures c.if-not-block_size_ok.false, le-leb _ _ c.if-s.false)
