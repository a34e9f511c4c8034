-- `threshold_ok`: the test of the search, then that of T.
use borrow.Author.Tests.{ne_eqb, eq-eqb}
use Rattle.refusals.specs.Refusals.{threshold_ok}
use Rattle.refusals.proofs.threshold_ok.Goals as goal

pub returns-then-search-eq4 : goal.returns-then-search-eq4
unfolding threshold_ok
returns-then-search-eq4 c = rw (eq-eqb _ 4 c.if-search-eq4.true, c.largest_distortion.ensures)

pub returns : goal.returns
unfolding threshold_ok
returns c = rw (ne_eqb _ 4 c.if-search-eq4.false)
