-- 01, "Pictures, blocks, vectors": the grid. "The grid has (height / N, rounded down) × (width / N, rounded down) blocks, row by row;
-- leftover pels at the right and bottom are in no grid block."
--   rows, columns, blocks    how many rows and columns of blocks there are, and how many blocks
--   block_row, block_column    the pel row and the pel column at which grid block k stands, counted from 0
use Rattle.std.specs.Prelude.{ℕ, zero, suc, ◌+◌, ◌*◌, ◌/◌, ◌%◌, ◌≤◌, ◌<◌}
use Rattle.std.proofs.Math.Nat.{div-mul-le_self, mul-le-mul}
use Rattle.std.proofs.Common.{div-lt_iff_lt-mul, mod-lt, mul-le-mul_left}
use native.Mathlib.Omega.{arith}
use Rattle.base.specs.Index.{row_fits}
use Rattle.frame.specs.declared.Setting.{Setting}
use Rattle.frame.specs.Pictures.{Fitting}

unfoldable pub rows : Setting → ℕ
rows s = s.height / s.n

unfoldable pub columns : Setting → ℕ
columns s = s.width / s.n

unfoldable pub blocks : Setting → ℕ
blocks s = rows s * columns s

unfoldable pub block_row : Setting → ℕ → ℕ
block_row s k = k / columns s * s.n

unfoldable pub block_column : Setting → ℕ → ℕ
block_column s k = k % columns s * s.n

-- a length of at most 1,024 that holds one part of n pels
part_some : (l n : ℕ) → 0 < n → n ≤ l → 0 < l / n
part_some l n h a = go (l / n) (div-lt_iff_lt-mul {k = n} {x = l} {y = 1} h).0
  where
    go : (q : ℕ) → (q < 1 → l < 1 * n) → 0 < q
    go zero f = absurd (omega (arith, f (omega arith)))
    go (suc q) f = omega arith

part_few : (l n : ℕ) → 0 < n → l ≤ 1024 → l / n ≤ 1024
part_few l n h b = omega (arith, div-mul-le_self l n, mul-le-mul_left (l / n) h)

module _ (s : Setting) (f : Fitting s) where
  pub columns_some : 0 < columns s
  unfolding columns
  columns_some = part_some s.width s.n f.some f.across

  rows_some : 0 < rows s
  unfolding rows
  rows_some = part_some s.height s.n f.some f.down

  -- the grid has a block
  pub blocks_some : 0 < blocks s
  unfolding blocks
  blocks_some = mul-le-mul rows_some columns_some

  pub rows_few : rows s ≤ 1024
  unfolding rows
  rows_few = part_few s.height s.n f.some f.high

  pub columns_few : columns s ≤ 1024
  unfolding columns
  columns_few = part_few s.width s.n f.some f.wide

  pub blocks_few : blocks s ≤ 1048576
  unfolding blocks
  blocks_few = mul-le-mul rows_few columns_few

  -- block k lies wholly inside the frame
  module _ (k : ℕ) (h : k < blocks s) where
    pub block_down : block_row s k + s.n ≤ s.height
    unfolding block_row blocks rows
    block_down =
        omega (
          arith,
          div-mul-le_self s.height s.n,
          row_fits (k / columns s) (s.height / s.n) s.n ((div-lt_iff_lt-mul {k = columns s} {x = k} {y = s.height / s.n} columns_some).1 h),
        )

    pub block_across : block_column s k + s.n ≤ s.width
    unfolding block_column columns
    block_across =
        omega (arith, div-mul-le_self s.width s.n, row_fits (k % (s.width / s.n)) (s.width / s.n) s.n (mod-lt k columns_some))
