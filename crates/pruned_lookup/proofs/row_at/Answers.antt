-- `row_at`: the measures other than 1 are one.
use Rattle.measures.specs.Measures.{measure_other}
use Rattle.pruned_lookup.proofs.row_at.Goals as goal

pub returns : goal.returns
returns c = rw (← measure_other _ c.if-measure-eq-ABSOLUTE.false) c.run_at-2.ensures
