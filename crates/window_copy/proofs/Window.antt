-- A block and its search window inside their frames.
--   block_small  the block begins near enough; block_whole: its rows lie inside the frame
--   WindowIn     where the window stands, and how large it is
--   window_in    so it does; window_whole: its rows lie inside the frame
use Prim.Native.Nat.{ℕ, ◌+◌, ◌-◌, ◌*◌, ◌≤◌, ◌<◌}
use mathlib.Core.Path.{◌≡◌, sym, subst}
use native.Mathlib.Nat.{mul-le-mul, mul-le-mul_right, add-mul}
use native.Mathlib.Omega.{arith}
use Rattle.frame.specs.declared.Region.{Region}
use Rattle.frame.specs.declared.SearchBlock.{SearchBlock}
use Rattle.reach.specs.Reach.{Standing, reach}
use Rattle.reach.proofs.Candidates.{Bounds, reach_bounds}

pub record WindowIn (b : SearchBlock) (r : Region) : Type 0 where
  pub first_row : 16 ≤ b.y + r.top
  pub first_column : 16 ≤ b.x + r.left
  pub low : b.y + r.top ≤ 1040
  pub far : b.x + r.left ≤ 1040
  pub some_rows : 0 < r.rows
  pub some_columns : 0 < r.columns
  pub few_rows : r.rows ≤ 33
  pub few_columns : r.columns ≤ 33
  pub last_row : b.y + r.top - 16 + (r.rows + b.setting.n - 1) ≤ b.setting.height
  pub last_column : b.x + r.left - 16 + (r.columns + b.setting.n - 1) ≤ b.setting.width
  pub small : (b.y + r.top - 16) * b.setting.width ≤ 1048576

-- the block's own rows
module _ (b : SearchBlock) (s : Standing b) where
  pub block_small : b.y * b.setting.width ≤ 1048576
  block_small = mul-le-mul {n₂ = 1024} {m₂ = 1024} (omega (arith, s.down, s.high)) s.wide

  pub block_whole : (long : ℕ) → b.setting.height * b.setting.width ≤ long
      → b.y * b.setting.width + b.x + b.setting.n * b.setting.width + b.setting.n ≤ long + b.setting.width
  block_whole long whole = omega (arith, add-mul b.y b.setting.n b.setting.width, mul-le-mul_right b.setting.width s.down, s.across, whole)

module _ (b : SearchBlock) (r : Region) (s : Standing b) (is : r ≡ reach b) where
  bounds : Bounds b r
  bounds = subst (λ (x : Region). Bounds b x) (sym is) (reach_bounds b s)

  pub window_in : WindowIn b r
  window_in =
      let k = bounds in
      record {
        first_row = k.first_row;
        first_column = k.first_column;
        low = omega (arith, k.last_row, k.rows, s.high);
        far = omega (arith, k.last_column, k.columns, s.wide);
        some_rows = k.rows;
        some_columns = k.columns;
        few_rows = omega (arith, k.few_rows);
        few_columns = omega (arith, k.few_columns);
        last_row = omega (arith, k.first_row, k.last_row, k.rows);
        last_column = omega (arith, k.first_column, k.last_column, k.columns);
        small = mul-le-mul {n₂ = 1024} {m₂ = 1024} (omega (arith, k.last_row, k.rows, s.high)) s.wide;
      }

  pub window_whole : (long : ℕ) → b.setting.height * b.setting.width ≤ long
      → (b.y + r.top - 16) * b.setting.width + (b.x + r.left - 16) + (r.rows + b.setting.n - 1) * b.setting.width + (r.columns + b.setting.n - 1)
      ≤ long + b.setting.width
  window_whole long whole =
      let w = window_in in
      let width = b.setting.width in
      omega (arith, add-mul (b.y + r.top - 16) (r.rows + b.setting.n - 1) width, mul-le-mul_right width w.last_row, w.last_column, whole)
