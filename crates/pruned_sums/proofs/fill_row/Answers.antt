-- `fill_row`: after c turns c entries are written (`RowGoing`); the last entry is written behind the loop.
use native.Mathlib.Omega.{arith}
use Prim.Native.Nat.{◌+◌}
use mathlib.Core.Path.{◌≡◌}
use Rattle.pruned_sums.proofs.Row.{row_first, entry_small, row-more, row_filled}
use Rattle.pruned_sums.proofs.fill_row.Goals as goal

pub loop-c-init : goal.loop-c-init
loop-c-init c = row_first _ _ _ _ _ _

pub overflow_add-table-in-loop-c : goal.overflow_add-table-in-loop-c
overflow_add-table-in-loop-c c =
    omega (arith, entry_small _ _ _ _ _ _ (omega arith) (omega arith) _ _ _ c.loop-c.invariant c.requires.small c.requires.inside.0)

pub loop-c-preserved : goal.loop-c-preserved
loop-c-preserved c =
    let a = c.args in
    row-more _ _ _ _ _ _ (omega arith) (omega arith) _ _ _ c.loop-c.invariant c.from-run.result c.from-run.ensures
    (omega (arith, c.type_inv.frame (a.from + c.loop-c.c))) (omega arith)

pub overflow_add-table-3 : goal.overflow_add-table-3
overflow_add-table-3 c =
    let e : c.loop-c.c ≡ c.args.columns = omega arith in
    let h = rw e at (entry_small _ _ _ _ _ _ (omega arith) (omega arith) _ _ _ c.loop-c.invariant c.requires.small c.requires.inside.0) in
    omega (arith, h)

pub returns : goal.returns
returns c =
    let e : c.loop-c.c ≡ c.args.columns = omega arith in
    rw e at (row_filled _ _ _ _ _ _ (omega arith) (omega arith) _ _ _ c.loop-c.invariant)
