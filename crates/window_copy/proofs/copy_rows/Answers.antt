-- `copy_rows`: after i turns the first i rows are copied, and the places are those of row i.
use Prim.Native.Nat.{◌<◌}
use mathlib.Core.Path.{refl, sym, ◌∙◌}
use native.Mathlib.Nat.{zero-mul}
use native.Mathlib.Omega.{arith}
use Rattle.base.specs.Index.{row_next, row_fits}
use Rattle.base.specs.Lists.{stored_none, stored_more}
use Rattle.window_copy.proofs.copy_rows.Goals as goal

pub loop-i-init : goal.loop-i-init
loop-i-init g c = (omega (arith, zero-mul c.args.width), omega (arith, zero-mul c.args.pitch), stored_none _ _ _ _ _, refl)

pub copy_row-requires : goal.copy_row-requires
copy_row-requires g c =
    let a = c.args in
    let h : c.loop-i._i < a.rows = omega arith in
    omega (arith, row_fits c.loop-i._i a.rows a.width h, row_fits c.loop-i._i a.rows a.pitch h)

pub overflow_add-p : goal.overflow_add-p
overflow_add-p g c = omega (arith, row_fits c.loop-i._i c.args.rows c.args.width (omega arith))

pub overflow_add-k : goal.overflow_add-k
overflow_add-k g c = omega (arith, row_fits c.loop-i._i c.args.rows c.args.pitch (omega arith))

pub loop-i-preserved : goal.loop-i-preserved
loop-i-preserved g c =
    let l = c.loop-i in
    let a = c.args in (
      omega (arith, row_next l._i a.width),
      omega (arith, row_next l._i a.pitch),
      c.copy_row.ensures ∙ rw (l.invariant.0, l.invariant.1, l.invariant.2) (sym (stored_more _ _ _ _ _ l._i)),
      c.copy_row.auto.copy ∙ l.invariant.3,
    )
