-- `columns_least`: before column j the least is that of the columns passed (`Passed`).
use Prim.Native.Nat.{ℕ, ◌+◌, ◌-◌}
use mathlib.Core.Path.{◌≡◌, ap, ap₂, ◌∙◌}
use native.Mathlib.Omega.{arith}
use mathlib.Core.List.{List}
use lib.ListN.{length}
use Rattle.base.specs.Rows.{length_in_rows}
use Rattle.full.specs.Rows.{least_from}
use Rattle.full.specs.Columns.{key_in_strip, key_by_column}
use Rattle.full.proofs.Reached.{passed_more}
use Rattle.full.proofs.columns_least.Goals as goal
use Rattle.full.proofs.columns_least.Goals.{After-copy_strip}

-- a strip is as long as its array
strip-long : (c : After-copy_strip) → length c.copy_strip.new.strip ≡ 320
strip-long c = ap length c.copy_strip.ensures ∙ length_in_rows _ 40 8

pub loop-j-preserved : goal.loop-j-preserved
loop-j-preserved c =
    let a = c.args in
    let e : a.r.top + a.r.rows - a.r.top ≡ a.r.rows = omega arith in
    let is =
    c.column_least-best.ensures
    ∙ ap₂ (λ (s : List ℕ) (n : ℕ). least_from c.loop-j.best (key_in_strip s a.block.now c.loop-j.j) a.r.top n) c.copy_strip.ensures e in (
      strip-long (goal.at.loop-j-preserved c).After-copy_strip,
      passed_more (key_by_column a.window.now a.block.now) a.r c.loop-j.j c.loop-j.best _ (omega arith) (omega arith) is c.loop-j.invariant.1,
    )
