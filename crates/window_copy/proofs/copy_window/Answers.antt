-- `copy_window`: the window's rows and columns lie inside the frame.
use native.Mathlib.Omega.{arith}
use Rattle.window_copy.proofs.Window.{window_in, window_whole}
use Rattle.window_copy.proofs.copy_window.Goals as goal

pub overflow_add-row : goal.overflow_add-row
overflow_add-row g c = omega (arith, window_in _ _ c.requires.0 c.requires.3)

pub overflow_sub-row : goal.overflow_sub-row
overflow_sub-row g c = omega (arith, window_in _ _ c.requires.0 c.requires.3)

pub overflow_add-column : goal.overflow_add-column
overflow_add-column g c = omega (arith, window_in _ _ c.requires.0 c.requires.3)

pub overflow_sub-column : goal.overflow_sub-column
overflow_sub-column g c = omega (arith, window_in _ _ c.requires.0 c.requires.3)

pub overflow_mul-row : goal.overflow_mul-row
overflow_mul-row g c = omega (arith, window_in _ _ c.requires.0 c.requires.3)

pub overflow_add-row-2 : goal.overflow_add-row-2
overflow_add-row-2 g c = omega (arith, window_in _ _ c.requires.0 c.requires.3)

pub overflow_add-r : goal.overflow_add-r
overflow_add-r g c = omega (arith, window_in _ _ c.requires.0 c.requires.3)

pub overflow_sub-r : goal.overflow_sub-r
overflow_sub-r g c = omega (arith, window_in _ _ c.requires.0 c.requires.3)

pub overflow_add-r-2 : goal.overflow_add-r-2
overflow_add-r-2 g c = omega (arith, window_in _ _ c.requires.0 c.requires.3)

pub overflow_sub-r-2 : goal.overflow_sub-r-2
overflow_sub-r-2 g c = omega (arith, window_in _ _ c.requires.0 c.requires.3)

pub copy_rows-requires : goal.copy_rows-requires
copy_rows-requires g c =
    let w = window_in _ _ c.requires.0 c.requires.3 in
    (window_whole _ _ c.requires.0 c.requires.3 _ c.requires.2, c.requires.5, c.requires.0.wide, c.requires.4, omega (arith, w, c.requires.1), c.requires.6)
