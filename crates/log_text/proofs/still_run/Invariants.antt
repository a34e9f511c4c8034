-- `still_run`: as long as the byte there is a still block's, one more is counted.
use Rattle.log_text.proofs.Stills.{Counted}
use Rattle.log_text.proofs.still_run.Given as goal

abbrev pub invariant-loop-n : goal.invariant-loop-n
invariant-loop-n l = Counted l.log l.from l.most l.n
