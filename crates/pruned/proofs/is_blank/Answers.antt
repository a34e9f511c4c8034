-- `is_blank`: the search window lies inside the frame.
use Prim.Native.Nat.{◌+◌, ◌-◌, ◌*◌, ◌≤◌, ◌<◌}
use mathlib.Core.Path.{sym, subst}
use native.Mathlib.Omega.{arith}
use native.Mathlib.Nat.{mul-le-mul, mul-le-mul_right, add-mul}
use lib.ListN.{length}
use Rattle.refusals.specs.Refusals.{block_size}
use Rattle.frame.specs.declared.Region.{Region}
use Rattle.reach.proofs.Candidates.{Bounds, reach_bounds}
use Rattle.pruned.proofs.is_blank.Goals as goal
use Rattle.pruned.proofs.is_blank.Goals.{Start}

-- where the window stands
bounds : (s : Start) → Bounds s.args.b s.args.r
bounds s = subst (λ (r : Region). Bounds s.args.b r) (sym s.requires.2) (reach_bounds s.args.b s.requires.0)

-- it lies inside the frame
inside : (s : Start) → let b = s.args.b in let r = s.args.r in let width = b.setting.width in
    (b.y + r.top - 16) * width + (b.x + r.left - 16) + (r.rows + b.setting.n - 1) * width + (r.columns + b.setting.n - 1)
    ≤ length s.args.older.now + width
inside s =
    let b = s.args.b in
    let r = s.args.r in
    let width = b.setting.width in
    let k = (let bounds : Bounds s.args.b s.args.r = subst (λ (r : Region). Bounds s.args.b r) (sym s.requires.2) (reach_bounds s.args.b s.requires.0) in bounds) in
    omega (
      arith,
      add-mul (b.y + r.top - 16) (r.rows + b.setting.n - 1) width,
      mul-le-mul_right width (let h : b.y + r.top - 16 + (r.rows + b.setting.n - 1) ≤ b.setting.height = omega (arith, k.first_row, k.last_row, k.rows) in h),
      k.first_column,
      k.last_column,
      k.columns,
      s.requires.3,
    )

-- and its frame is small
small : (s : Start) → let b = s.args.b in let r = s.args.r in (b.y + r.top - 16) * b.setting.width ≤ 1048576
small s =
    let b = s.args.b in
    let k = (let bounds : Bounds s.args.b s.args.r = subst (λ (r : Region). Bounds s.args.b r) (sym s.requires.2) (reach_bounds s.args.b s.requires.0) in bounds) in
    mul-le-mul {n₂ = 1024} {m₂ = 1024} (omega (arith, k.last_row, k.rows, s.requires.0.high)) s.requires.0.wide

-- what the numbers are at most
near : (s : Start) → let b = s.args.b in let r = s.args.r in
    (16 ≤ b.y + r.top) × (16 ≤ b.x + r.left) × (b.y + r.top ≤ 1040) × (b.x + r.left ≤ 1040) × (0 < r.rows) × (0 < r.columns) × (r.rows ≤ 33)
    × (r.columns ≤ 33) × (0 < b.setting.n) × (b.setting.n ≤ 32)
near s =
    let k = (let bounds : Bounds s.args.b s.args.r = subst (λ (r : Region). Bounds s.args.b r) (sym s.requires.2) (reach_bounds s.args.b s.requires.0) in bounds) in
    let p = s.requires.0 in
    let n = block_size s.args.b.setting.n s.requires.1 in
    omega (arith, k.first_row, k.first_column, k.last_row, k.last_column, k.rows, k.columns, k.few_rows, k.few_columns, p.high, p.wide, n.least, n.most)

pub overflow_add-row : goal.overflow_add-row
overflow_add-row c = omega (arith, near (goal.at.overflow_add-row c).Start)

pub overflow_sub-row : goal.overflow_sub-row
overflow_sub-row c = omega (arith, near (goal.at.overflow_sub-row c).Start)

pub overflow_add-column : goal.overflow_add-column
overflow_add-column c = omega (arith, near (goal.at.overflow_add-column c).Start)

pub overflow_sub-column : goal.overflow_sub-column
overflow_sub-column c = omega (arith, near (goal.at.overflow_sub-column c).Start)

pub overflow_mul-row : goal.overflow_mul-row
overflow_mul-row c = omega (arith, small (goal.at.overflow_mul-row c).Start)

pub overflow_add-row-2 : goal.overflow_add-row-2
overflow_add-row-2 c = omega (arith, small (goal.at.overflow_add-row-2 c).Start, near (goal.at.overflow_add-row-2 c).Start)

pub overflow_add-r : goal.overflow_add-r
overflow_add-r c = omega (arith, near (goal.at.overflow_add-r c).Start)

pub overflow_sub-r : goal.overflow_sub-r
overflow_sub-r c = omega (arith, near (goal.at.overflow_sub-r c).Start)

pub overflow_add-r-2 : goal.overflow_add-r-2
overflow_add-r-2 c = omega (arith, near (goal.at.overflow_add-r-2 c).Start)

pub overflow_sub-r-2 : goal.overflow_sub-r-2
overflow_sub-r-2 c = omega (arith, near (goal.at.overflow_sub-r-2 c).Start)

pub one_grey-requires : goal.one_grey-requires
one_grey-requires c =
    let k = near (goal.at.one_grey-requires c).Start in
    (omega (arith, k), omega (arith, k), inside (goal.at.one_grey-requires c).Start, c.requires.0.wide, omega (arith, k), omega (arith, k))
