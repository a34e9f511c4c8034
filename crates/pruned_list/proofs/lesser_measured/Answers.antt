-- `lesser_measured`: over, the key by the distortion is more than the least so far; else the two are compared.
use mathlib.Core.Path.{◌≡◌, sym, ◌∙◌}
use native.Mathlib.Omega.{arith}
use Rattle.distortion.specs.Blocks.{within_says, over_says}
use Rattle.pruned_list.specs.Listed.{distortion_to, measured_key}
use Rattle.pruned_list.proofs.lesser_measured.Goals as goal
use Rattle.pruned_list.proofs.lesser_measured.Goals.{After-renewed-k}

pub returns-in_default : goal.returns-in_default
returns-in_default c =
    let h = over_says _ _ (sym (rw c.spot_of.ensures at c.measured.ensures) ∙ c.in_default.is) in
    omega (arith, h)

-- the key by the distortion
key-is : (k : After-renewed-k) → let a = k.args in
    k.renewed-k.result ≡ measured_key (distortion_to a.matching.older.now a.matching.newer.now a.matching.block) a.key
key-is k =
    let h = within_says _ _ _ (sym (rw k.spot_of.ensures at k.measured.ensures) ∙ k.in-Some.is) in
    omega (arith, k.renewed-k.ensures, h)

pub returns-then-k-best : goal.returns-then-k-best
returns-then-k-best c = omega (arith, key-is (goal.at.returns-then-k-best c).After-renewed-k, c.if-k-best.true)

pub returns : goal.returns
returns c = omega (arith, key-is (goal.at.returns c).After-renewed-k, c.if-k-best.false)
