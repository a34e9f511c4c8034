-- `window_ok`: the test of the search, then that of its window.
use borrow.Author.Tests.{le-leb, lt-leb, ne_eqb, eq-eqb}
use Rattle.refusals.specs.Refusals.{window_ok}
use Rattle.refusals.proofs.window_ok.Goals as goal

pub returns-then-search-le2 : goal.returns-then-search-le2
unfolding window_ok
returns-then-search-le2 c = rw (le-leb _ 2 c.if-search-le2.true)

pub returns-then-search-eq3 : goal.returns-then-search-eq3
unfolding window_ok
returns-then-search-eq3 c = rw (lt-leb _ 2 c.if-search-le2.false, eq-eqb _ 3 c.if-search-eq3.true)

pub returns : goal.returns
unfolding window_ok
returns c = rw (lt-leb _ 2 c.if-search-le2.false, ne_eqb _ 3 c.if-search-eq3.false) c.cross_window.ensures
