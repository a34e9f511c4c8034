-- `nearest`: the least of the keys passed is carried along.
use mathlib.Core.Path.{◌≡◌, ◌∙◌}
use native.Mathlib.Omega.{arith}
use lib.ListN.{length}
use Rattle.base.specs.Least.{least_of_one}
use Rattle.pruned_list.specs.Listed.{nearest_key}
use Rattle.pruned_list.proofs.Measuring.{nearest_more}
use Rattle.pruned_list.proofs.nearest.Goals as goal

pub loop-i-init : goal.loop-i-init
loop-i-init c = least_of_one (λ k. k) c.args.keys.now (omega arith)

pub loop-i-preserved : goal.loop-i-preserved
loop-i-preserved c = let l = c.loop-i in c.min-least.ensures ∙ nearest_more _ l.i l.least l.invariant (omega arith) (omega arith)

pub returns : goal.returns
unfolding nearest_key
returns c =
    let l = c.loop-i in
    let e : l.i ≡ length c.args.keys.now = omega arith in
    rw e at l.invariant
