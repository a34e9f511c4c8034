-- `block_size_ok`: the tests of the definition, in its order.
use borrow.Author.Tests.{ne_eqb, eq-eqb}
use Rattle.refusals.specs.Refusals.{block_size_ok}
use Rattle.refusals.proofs.block_size_ok.Goals as goal

pub returns-then-n-eq4 : goal.returns-then-n-eq4
unfolding block_size_ok
returns-then-n-eq4 c = rw (eq-eqb _ 4 c.if-n-eq4.true)

pub returns-then-n-eq8 : goal.returns-then-n-eq8
unfolding block_size_ok
returns-then-n-eq8 c = rw (ne_eqb _ 4 c.if-n-eq4.false, eq-eqb _ 8 c.if-n-eq8.true)

pub returns-then-n-eq16 : goal.returns-then-n-eq16
unfolding block_size_ok
returns-then-n-eq16 c = rw (ne_eqb _ 4 c.if-n-eq4.false, ne_eqb _ 8 c.if-n-eq8.false, eq-eqb _ 16 c.if-n-eq16.true)

pub returns : goal.returns
unfolding block_size_ok
returns c = rw (ne_eqb _ 4 c.if-n-eq4.false, ne_eqb _ 8 c.if-n-eq8.false, ne_eqb _ 16 c.if-n-eq16.false)
