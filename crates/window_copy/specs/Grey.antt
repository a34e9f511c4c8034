-- Rows of a frame of one grey.
--   grey_row   so many pels from a place on have this grey
--   row_is     row i of those that begin at a place has the grey of the first pel; one_grey: so many rows have it
use Rattle.std.specs.Prelude.{ℕ, ◌+◌, ◌*◌, Bool, List, eqb, get_or}
use Rattle.base.specs.Tests.{all_below}

abbrev pub grey_row : List ℕ → ℕ → ℕ → ℕ → Bool
grey_row frame from columns grey = all_below (λ j. eqb (get_or frame (from + j) 0) grey) columns

abbrev pub row_is : List ℕ → ℕ → ℕ → ℕ → ℕ → Bool
row_is frame width from columns i = grey_row frame (from + i * width) columns (get_or frame from 0)

unfoldable pub one_grey : List ℕ → ℕ → ℕ → ℕ → ℕ → Bool
one_grey frame width from rows columns = all_below (row_is frame width from columns) rows
