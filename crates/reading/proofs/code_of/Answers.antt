-- `code_of`: both parts plus 16 are at most 32.
use Prim.Native.Nat.{ℕ, ◌+◌, ◌*◌, ◌<◌}
use mathlib.Core.Path.{◌≡◌, ap, ap₂, ◌∙◌}
use native.Mathlib.Omega.{arith}
use mir.Facts.{to_z-of_z}
use borrow.Author.Rules.{rules}
use Rattle.signed.specs.Values.{bias}
use Rattle.order.specs.Vectors.{vector_count}
use Rattle.reading.specs.Tally.{code}
use Rattle.reading.proofs.Tally.{bias_small, code_below}
use mir.Syntax.{w32}
use Rattle.reading.proofs.code_of.Goals as goal
use Rattle.reading.proofs.code_of.Goals.{After-biased, After-biased-2}

-- a part comes back from its bits unchanged
down : (c : After-biased) → c.biased.result ≡ bias 16 c.args.v.dy
down c = c.biased.ensures ∙ ap (bias 16) (to_z-of_z {w = w32} (search rules))

across : (c : After-biased-2) → c.biased-2.result ≡ bias 16 c.args.v.dx
across c = c.biased-2.ensures ∙ ap (bias 16) (to_z-of_z {w = w32} (search rules))

pub overflow_mul-result : goal.overflow_mul-result
overflow_mul-result c = omega (arith, down c, bias_small c.args.v.dy c.requires.down)

sum_is : (c : After-biased-2) → ((c.biased.result * 33 + c.biased-2.result) ≡ code c.args.v) × ((c.biased.result * 33 + c.biased-2.result) < vector_count)
sum_is c =
    let e : (c.biased.result * 33 + c.biased-2.result) ≡ code c.args.v = ap₂ (λ (y x : ℕ). y * 33 + x) (down (goal.at.returns c).After-biased) (across c) in
    (e, omega (arith, code_below c.args.v c.requires))

pub overflow_add-result : goal.overflow_add-result
overflow_add-result c = omega (arith, (sum_is c).1)

pub returns : goal.returns
returns c = sum_is c
