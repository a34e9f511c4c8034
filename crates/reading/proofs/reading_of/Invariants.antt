-- `reading_of`: the walk along the table keeps the first greatest count; after its last vector that is the array's reading.
use Rattle.reading.proofs.Tally.{Walked}
use Rattle.reading.proofs.reading_of.Given as goal

abbrev pub invariant-loop-k : goal.invariant-loop-k
invariant-loop-k l = Walked l.votes l.k l.best l.most
