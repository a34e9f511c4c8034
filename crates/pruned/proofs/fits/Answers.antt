-- `fits`: one test, then the other.
use borrow.Author.Tests.{eq-eqb, ne_eqb}
use Rattle.pruned.specs.Flow.{fits}
use Rattle.pruned.proofs.fits.Goals as goal

pub returns-then-s-eq-ABSOLUTE : goal.returns-then-s-eq-ABSOLUTE
unfolding fits
returns-then-s-eq-ABSOLUTE c = rw (eq-eqb _ 1 c.if-s-eq-ABSOLUTE.true)

pub returns-else-s-eq-ABSOLUTE : goal.returns-else-s-eq-ABSOLUTE
unfolding fits
returns-else-s-eq-ABSOLUTE c = rw (ne_eqb _ 1 c.if-s-eq-ABSOLUTE.false)
