-- `search`: the least key is that of the exhaustive best, and the reach has as many candidates as it has places.
use Prim.Native.Nat.{◌*◌, ◌≤◌}
use mathlib.Core.Path.{refl, ap, sym, ◌∙◌}
use native.Mathlib.Nat.{mul-le-mul}
use native.Mathlib.Omega.{arith}
use borrow.Author.Rules.{sfits_of, Fits-under}
use mir.Syntax.{w32, w64}
use mir.Facts.{to_z-of_z}
use Rattle.frame.specs.declared.Region.{Region}
use Rattle.reach.proofs.Candidates.{ready_standing, reach_bounds, reach_count}
use Rattle.full.specs.Full.{full_search}
use Rattle.full.proofs.Answer.{Found, found}
use Rattle.full.proofs.search.Goals as goal
use Rattle.full.proofs.search.Goals.{After-least_key-key, After-reach-r}

answer : (k : After-least_key-key) → let a = k.args in Found a.matching.older.now a.matching.newer.now a.matching.block k.least_key-key.result
answer k = found _ _ _ _ (ready_standing _ _ _ k.args.matching.ready) k.least_key-key.ensures.0

-- at most 33 rows and columns
few : (k : After-reach-r) → let r = k.reach-r.result in (r.rows ≤ 33) × (r.rows * r.columns ≤ 1089)
few k =
    let d = reach_bounds k.args.matching.block (ready_standing _ _ _ k.args.matching.ready) in
    rw k.reach-r.ensures (omega (arith, d.few_rows), mul-le-mul {n₂ = 33} {m₂ = 33} (omega (arith, d.few_rows)) (omega (arith, d.few_columns)))

pub unbiased-requires : goal.unbiased-requires
unbiased-requires c = omega (arith, (answer c).row)

pub unbiased-requires-2 : goal.unbiased-requires-2
unbiased-requires-2 c = omega (arith, (answer (goal.at.unbiased-requires-2 c).After-least_key-key).column)

pub overflow_mul-r : goal.overflow_mul-r
overflow_mul-r c = Fits-under w64 _ 1090 (omega (arith, few (goal.at.overflow_mul-r c).After-reach-r)) tt

pub overflow_cast-r : goal.overflow_cast-r
overflow_cast-r c = Fits-under w32 _ 1090 (omega (arith, few (goal.at.overflow_cast-r c).After-reach-r)) tt

pub returns : goal.returns
unfolding full_search
returns c =
    let a = answer (goal.at.returns c).After-least_key-key in
    let places = ap (λ (r : Region). r.rows * r.columns) c.reach-r.ensures ∙ sym (reach_count c.args.matching.block (ready_standing _ _ _ c.args.matching.ready)) in
    rw (
      to_z-of_z (sfits_of {w = w32} c.unbiased.type_inv),
      to_z-of_z (sfits_of {w = w32} c.unbiased-2.type_inv),
      c.unbiased.ensures,
      c.unbiased-2.ensures,
      a.distortion_is,
      c.only_at_one.ensures,
      places,
      ← a.is,
    ) refl
