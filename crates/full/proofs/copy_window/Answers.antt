-- `copy_window`: the window's rows and columns lie inside the copy.
use native.Mathlib.Omega.{arith}
use Rattle.window_copy.proofs.Window.{window_in}
use Rattle.reach.proofs.Candidates.{reach_bounds}
use Rattle.full.proofs.copy_window.Goals as goal

pub overflow_mul-r : goal.overflow_mul-r
overflow_mul-r c = let k = rw (← c.requires.3) at (reach_bounds c.args.b c.requires.0) in omega (arith, k.above)

pub overflow_add-r : goal.overflow_add-r
overflow_add-r c = let k = rw (← c.requires.3) at (reach_bounds c.args.b c.requires.0) in omega (arith, k.above, k.before)

pub copy_window-requires : goal.copy_window-requires
copy_window-requires c =
    let w = window_in _ _ c.requires.0 c.requires.3 in
    let k = rw (← c.requires.3) at (reach_bounds c.args.b c.requires.0) in
    (c.requires.0, c.requires.1, c.requires.2, c.requires.3, omega arith, omega (arith, c.requires.1, c.requires.4, w, k.few_rows, k.few_columns), omega (arith, c.requires.4))
