-- `past`: d + 16 is d with 16 more, and at + d lies at or behind `from`.
use Prim.Native.Nat.{◌+◌}
use mathlib.Core.Path.{◌≡◌}
use native.Mathlib.Omega.{arith}
use mir.Facts.{to_z-of_z}
use Rattle.signed.specs.Int.{up, dn}
use Rattle.signed.specs.Values.{bias_is}
use Rattle.search.proofs.past.Goals as goal
use Rattle.search.proofs.past.Goals.{After-biased}

-- what the call for d + 16 answers
raised : (c : After-biased) → c.biased.result + dn c.args.d ≡ 16 + up c.args.d
raised c = rw (c.biased.ensures, to_z-of_z c.ranges.d) (bias_is 16 c.args.d c.requires.window)

pub biased-requires : goal.biased-requires
biased-requires c = rw (to_z-of_z c.ranges.d) c.requires.window

pub overflow_add-result : goal.overflow_add-result
overflow_add-result c = omega (arith, raised c, c.requires.is, c.requires.small, c.requires.window)

pub overflow_add-result-2 : goal.overflow_add-result-2
overflow_add-result-2 c = omega (arith, c.requires.behind, c.requires.small)

pub overflow_sub-result : goal.overflow_sub-result
overflow_sub-result c = omega (arith, raised c, c.requires.is, c.requires.behind)

pub returns : goal.returns
returns c = omega (arith, raised c, c.requires.is, c.requires.behind, c.requires.small)
