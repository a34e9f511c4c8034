-- `all_passes`: the passes left lead to where all lead.
use Prim.Native.Nat.{◌-◌}
use Rattle.search.specs.Matchings.{target_in}
use Rattle.cross.proofs.Passes.{Passing}
use Rattle.cross.proofs.all_passes.Given as goal

abbrev pub invariant-loop-pass : goal.invariant-loop-pass
invariant-loop-pass l = Passing (target_in l.matching) l.matching.block.w l.initial.best l.best l.p (l._pass-end - l._pass)
