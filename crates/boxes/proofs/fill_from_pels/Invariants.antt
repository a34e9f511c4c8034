-- `fill_from_pels`: a turn has twice the m (`Walk`).
use Prim.Native.Nat.{◌-◌}
use Rattle.boxes.proofs.Walk.{Walk}
use Rattle.boxes.proofs.fill_from_pels.Given as goal

abbrev pub invariant-loop-m : goal.invariant-loop-m
invariant-loop-m l = Walk l.initial.boxes l.n l.span l.boxes l.from l.m

abbrev pub decreases-loop-m : goal.decreases-loop-m
decreases-loop-m l = l.n - l.m
