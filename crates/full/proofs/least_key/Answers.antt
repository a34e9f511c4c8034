-- `least_key`: the key of (0,0) begins; with a distortion of 0 it is the least.
use Prim.Native.Nat.{ℕ, ◌+◌, ◌-◌, ◌*◌, ◌≤◌, ◌<◌}
use mathlib.Core.Path.{◌≡◌, refl, sym, ◌∙◌}
use native.Mathlib.Omega.{arith}
use Rattle.frame.specs.Pictures.{pair_of}
use Rattle.search.specs.Exhaustive.{grid_vector}
use Rattle.distortion.specs.Blocks.{distortion}
use Rattle.reach.specs.Keys.{key_of}
use Rattle.reach.proofs.Candidates.{ready_standing, reach_small, older-at}
use Rattle.reach.proofs.Keys.{still_is, still_code}
use Rattle.full.specs.Rows.{key_at}
use Rattle.full.proofs.Ready.{size, middle}
use Rattle.full.proofs.least_key.Goals as goal
use Rattle.full.proofs.least_key.Goals.{After-block_distortion-d}

-- the key of (0,0) is the first
first-is : (c : After-block_distortion-d) → let a = c.args in
    c.block_distortion-d.result * 262144 + 1040 ≡ key_at a.matching.older.now a.matching.newer.now a.matching.block 16 16
unfolding key_of distortion
first-is c =
    let b = c.args.matching.block in
    let o = older-at b.y b.x 16 16 (omega arith) (omega arith) in
    let y : b.y + 16 - 16 ≡ b.y = omega arith in
    let x : b.x + 16 - 16 ≡ b.x = omega arith in
    rw (o.0, o.1, y, x, still_is, c.block_distortion-d.ensures) refl

-- no key is less than that of (0,0) with a distortion of 0
lowest : (d i j : ℕ) → i < 33 → j < 33 → 1040 ≤ key_of d i j
unfolding key_of
lowest d i j hi hj = omega (arith, still_is, still_code i j hi hj)

pub returns-then-d-eq0 : goal.returns-then-d-eq0
returns-then-d-eq0 c =
    let e = first-is (goal.at.returns-then-d-eq0 c).After-block_distortion-d in (
      record {
        some = (16, 16, middle _ _ _ c.args.matching.ready, e);
        least = λ i j h. let small = reach_small _ (ready_standing _ _ _ c.args.matching.ready) i j h in
            omega (arith, lowest (distortion (pair_of c.args.matching.older.now c.args.matching.newer.now c.args.matching.block.setting) c.args.matching.block.y c.args.matching.block.x (grid_vector i j)) i j small.0 small.1, c.if-d-eq0.true);
      },
      omega arith,
    )

pub kernel-requires : goal.kernel-requires
kernel-requires c = omega (arith, size _ _ _ c.args.matching.ready)

pub by_columns-requires : goal.by_columns-requires
by_columns-requires c =
    (c.requires, first-is (goal.at.by_columns-requires c).After-block_distortion-d, sym c.kernel.ensures ∙ c.if-kernel-eq8.true)

pub returns-then-kernel-eq8 : goal.returns-then-kernel-eq8
returns-then-kernel-eq8 c =
    let p = c.requires in
    (c.by_columns.ensures, omega (arith, first-is (goal.at.returns-then-kernel-eq8 c).After-block_distortion-d, c.by_columns.ensures.least 16 16 (middle _ _ _ c.args.matching.ready)))

pub by_rows-requires : goal.by_rows-requires
by_rows-requires c =
    (c.requires, first-is (goal.at.by_rows-requires c).After-block_distortion-d, omega arith)

pub returns : goal.returns
returns c =
    let p = c.requires in
    (c.by_rows.ensures, omega (arith, first-is (goal.at.returns c).After-block_distortion-d, c.by_rows.ensures.least 16 16 (middle _ _ _ c.args.matching.ready)))
