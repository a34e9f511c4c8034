-- `pair_refusal`: the tests in the chain's order; what each return passed rewrites the chain down to its number.
use mathlib.Core.Path.{◌≡◌}
use mathlib.Core.Bool.{true}
use native.Mathlib.Omega.{arith}
use borrow.Author.Tests.{ne_eqb, eq-eqb}
use Rattle.refusals.specs.Refusals.{pair_refusal, side_ok, side_high}
use Rattle.base.specs.Index.{frame_small}
use Rattle.base.specs.Tests.{true_T, told}
use Rattle.refusals.proofs.pair_refusal.Goals as goal
use Rattle.refusals.proofs.pair_refusal.Goals.{Else-not-side_ok, Else-not-side_ok-2}

-- what was passed on the way, in the chain's words
wide : (d : Else-not-side_ok) → side_ok d.args.s.width ≡ true
wide d = told d.side_ok.ensures d.if-not-side_ok.false

high : (d : Else-not-side_ok-2) → side_ok d.args.s.height ≡ true
high d = told d.side_ok-2.ensures d.if-not-side_ok-2.false

pub returns-then-not-side_ok : goal.returns-then-not-side_ok
unfolding pair_refusal
returns-then-not-side_ok c = rw (told c.side_ok.ensures c.if-not-side_ok.true)

pub returns-then-not-side_ok-2 : goal.returns-then-not-side_ok-2
unfolding pair_refusal
returns-then-not-side_ok-2 c = rw (wide (goal.at.returns-then-not-side_ok-2 c).Else-not-side_ok, told c.side_ok-2.ensures c.if-not-side_ok-2.true)

pub overflow_mul-whole : goal.overflow_mul-whole
overflow_mul-whole c =
    let s = c.args.s in
    let w = side_high s.width (true_T _ (wide (goal.at.overflow_mul-whole c).Else-not-side_ok)) in
    let h = side_high s.height (true_T _ (high (goal.at.overflow_mul-whole c).Else-not-side_ok-2)) in
    omega (arith, frame_small s.height s.width h w)

pub returns-then-older-whole : goal.returns-then-older-whole
unfolding pair_refusal
returns-then-older-whole c =
    rw (wide (goal.at.returns-then-older-whole c).Else-not-side_ok, high (goal.at.returns-then-older-whole c).Else-not-side_ok-2, ne_eqb _ _ c.if-older-whole.true)

pub returns-then-newer-whole : goal.returns-then-newer-whole
unfolding pair_refusal
returns-then-newer-whole c =
    rw (wide (goal.at.returns-then-newer-whole c).Else-not-side_ok, high (goal.at.returns-then-newer-whole c).Else-not-side_ok-2, eq-eqb _ _ c.if-older-whole.false, ne_eqb _ _ c.if-newer-whole.true)

pub returns-then-not-block_ok : goal.returns-then-not-block_ok
unfolding pair_refusal
returns-then-not-block_ok c =
    rw (
      wide (goal.at.returns-then-not-block_ok c).Else-not-side_ok,
      high (goal.at.returns-then-not-block_ok c).Else-not-side_ok-2,
      eq-eqb _ _ c.if-older-whole.false,
      eq-eqb _ _ c.if-newer-whole.false,
      told c.block_ok.ensures c.if-not-block_ok.true,
    )

pub returns : goal.returns
unfolding pair_refusal
returns c =
    rw (
      wide (goal.at.returns c).Else-not-side_ok,
      high (goal.at.returns c).Else-not-side_ok-2,
      eq-eqb _ _ c.if-older-whole.false,
      eq-eqb _ _ c.if-newer-whole.false,
      told c.block_ok.ensures c.if-not-block_ok.false,
    )
