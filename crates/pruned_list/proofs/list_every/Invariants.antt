-- `list_every`: after i turns the keys of the first i rows stand in front.
use Rattle.base.specs.Rows.{Rowed}
use Rattle.pruned_list.proofs.Listed.{code_in}
use Rattle.pruned_list.proofs.list_every.Given as goal

abbrev pub invariant-loop-i : goal.invariant-loop-i
invariant-loop-i l = Rowed (code_in l.r) l.r.columns l.initial.keys l.keys l.i
