-- `fill_table`: the summed-area table of the whole older frame is the field's table of sums.
use borrow.Author.Tests.{eq-eqb}
use Rattle.field.specs.Field.{table_of}
use Rattle.field.proofs.fill_table.Goals as goal

pub returns-then-q-eq2 : goal.returns-then-q-eq2
unfolding table_of
returns-then-q-eq2 c =
    rw (eq-eqb _ 2 c.if-q-eq2.true) (rw c.whole_frame.ensures at c.fill_sums.ensures)
