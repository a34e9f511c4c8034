-- `square`: a difference of 16 bits has a square of 32.
use Prim.Native.Nat.{ℕ, ◌*◌}
use mathlib.Core.Path.{sym, ap, ◌∙◌}
use Rattle.pruned_wide.proofs.Sums.{squared_is}
use Rattle.pruned_wide.proofs.square.Goals as goal

pub returns : goal.returns
returns c = ap (λ (x : ℕ). x * x) c.abs_diff-d.ensures ∙ sym (squared_is _ _)
