-- `counted`: a part inside is at most 32 with its 16.
use Prim.Native.Nat.{◌≤◌}
use mathlib.Core.Path.{◌≡◌, sym, ap, ◌∙◌}
use native.Mathlib.Omega.{arith}
use borrow.Author.Tests.{leb-true}
use lib.Dec.{leb}
use lib.IntN.{ℤ, nat_abs}
use mir.Facts.{to_z-of_z}
use Rattle.signed.specs.Int.{parts}
use Rattle.signed.specs.Values.{bias, bias_is}
use Rattle.recent.proofs.counted.Goals as goal
use Rattle.recent.proofs.counted.Goals.{After-biased, Then-within}

small : (c : Then-within) → nat_abs c.args.z ≤ 16
small c = leb-true _ 16 (sym (c.within.ensures ∙ ap (λ (z : ℤ). leb (nat_abs z) 16) (to_z-of_z c.ranges.z)) ∙ c.if-within.true)

biased-is : (c : After-biased) → c.biased.result ≡ bias 16 c.args.z
biased-is c = c.biased.ensures ∙ ap (bias 16) (to_z-of_z c.ranges.z)

pub overflow_cast-result : goal.overflow_cast-result
overflow_cast-result c =
    let z = c.args.z in
    let h = small (goal.at.overflow_cast-result c).Then-within in
    omega (arith, biased-is c, bias_is 16 z h, parts z, h)
