-- `at_origin`: the older block of (0,0) stands where the newer one stands.
use native.Mathlib.Omega.{arith}
use Rattle.probe.proofs.Looks.{at_origin_is}
use Rattle.probe.proofs.at_origin.Goals as goal

pub returns : goal.returns
returns c = record { is = at_origin_is _ _ _ _ _ c.block_distortion.ensures; few = omega arith }
