-- `lowered`: over, the distortion is more than E; else it is at most E.
use mathlib.Core.Path.{sym, ◌∙◌}
use native.Mathlib.Omega.{arith}
use Rattle.distortion.specs.Blocks.{within_says, over_says}
use Rattle.pruned_list.proofs.lowered.Goals as goal

pub returns-in_default : goal.returns-in_default
returns-in_default c = let h = over_says _ _ (sym c.measured.ensures ∙ c.in_default.is) in omega (arith, h)

pub returns : goal.returns
returns c = let h = within_says _ _ _ (sym c.measured.ensures ∙ c.in-Some.is) in omega (arith, h)
