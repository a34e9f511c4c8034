-- `keep_within`: of the keys passed those within the limit stand in front.
use Rattle.pruned_list.proofs.Turns.{Sifting}
use Rattle.pruned_list.proofs.keep_within.Given as goal

abbrev pub invariant-loop-from : goal.invariant-loop-from
invariant-loop-from l = Sifting l.initial.keys l.count l.limit l.from l.kept l.keys
