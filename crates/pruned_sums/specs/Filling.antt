-- How the summed-area table is filled: a first row of zeros, then row by row from the one above.
--   whole_frame   all of a frame
--   Fillable     the part of the frame lies in it, and the table has room
--   next_row      entry c of the row that is made from the one above and the pels of a row
use Rattle.std.specs.Prelude.{ℕ, ◌+◌, ◌*◌, ◌≤◌, List, length, get_or}
use Rattle.base.specs.Sum.{sum_to}
use Rattle.frame.specs.declared.Setting.{Setting}
use Rattle.frame.specs.declared.Region.{Region}

abbrev pub whole_frame : Setting → Region
whole_frame s = record { top = 0; left = 0; rows = s.height; columns = s.width }

pub record Fillable (frame : List ℕ) (width : ℕ) (a : Region) (room : ℕ) : Type 0 where
  pub across : a.left + a.columns ≤ width
  pub down : (a.top + a.rows) * width ≤ length frame
  pub wide : width ≤ 1024
  pub high : a.rows ≤ 1024
  pub table : (a.rows + 1) * (a.columns + 1) ≤ room

-- the row above begins at place `above` of the table, the pels at place `from` of the frame
abbrev pub next_row : List ℕ → ℕ → List ℕ → ℕ → ℕ → ℕ
next_row frame from table above c = get_or table (above + c) 0 + sum_to (λ j. get_or frame (from + j) 0) c
