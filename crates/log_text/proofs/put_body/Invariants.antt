-- `put_body`: a turn puts the line of the next block; what is still to be put, put from here on, makes the whole.
use Prim.Native.Nat.{◌-◌}
use Rattle.log_text.proofs.Blocks.{Printing}
use Rattle.log_text.proofs.put_body.Given as goal

abbrev pub invariant-loop-k : goal.invariant-loop-k
invariant-loop-k l = Printing l.log l.head l.initial.out l.from l.first l.out l.at l.next l.k

abbrev pub decreases-loop-k : goal.decreases-loop-k
decreases-loop-k l = l.all - l.k
