-- The loop that writes one row of the summed-area table: the row above is read and stays as it was, the pels' sum runs along.
use Prim.Native.Nat.{ℕ, ◌+◌, ◌*◌, ◌≤◌, ◌<◌}
use mathlib.Core.Path.{◌≡◌, refl, sym, ap₂, ◌∙◌}
use mathlib.Core.List.{List}
use native.Mathlib.Omega.{arith}
use lib.ListN.{length, get_or, set, length-set}
use Rattle.base.specs.Sum.{sum_to, sum_to_none, sum_to_more}
use Rattle.base.specs.Lists.{fill_to, fill_none, fill_more, fill_before}
use Rattle.pruned_sums.specs.Filling.{next_row}

-- c entries are written at `here`, from the row at `above` and the pels from `from` on
pub record RowGoing (frame : List ℕ) (from : ℕ) (before : List ℕ) (above here columns : ℕ) (table : List ℕ) (run c : ℕ) : Type 0 where
  pub low : c ≤ columns
  pub long : length table ≡ length before
  pub small : run ≤ 255 * c
  pub sum : run ≡ sum_to (λ j. get_or frame (from + j) 0) c
  pub filled : table ≡ fill_to before here (next_row frame from before above) c

module _ (frame : List ℕ) (from : ℕ) (before : List ℕ) (above here columns : ℕ) where
  pub row_first : RowGoing frame from before above here columns before 0 0
  row_first = record { low = omega arith; long = refl; small = omega arith; sum = sym (sum_to_none _); filled = fill_none before here _ }

  module _ (apart : above + columns < here) (room : here + columns < length before) (table : List ℕ) (run c : ℕ)
      (g : RowGoing frame from before above here columns table run c) where
    -- the row above is as it was
    pub row_read : get_or table (above + c) 0 ≡ get_or before (above + c) 0
    row_read = rw g.filled (fill_before before here _ c (above + c) 0 (omega arith) (omega arith))

    -- an entry fits
    pub entry_small : ((i : ℕ) → i ≤ columns → get_or before (above + i) 0 ≤ 267386880) → columns ≤ 1024 → get_or table (above + c) 0 + run ≤ 267648000
    entry_small small few = omega (arith, row_read, small c (omega (arith, g.low)), g.small, g.low)

    -- one more entry
    pub row_filled : set table (here + c) (get_or table (above + c) 0 + run) ≡ fill_to before here (next_row frame from before above) (c + 1)
    row_filled = rw (row_read, g.sum, g.filled) (fill_more before here (next_row frame from before above) c (omega arith))

    pub row-more : (x : ℕ) → x ≡ get_or frame (from + c) 0 → x ≤ 255 → c < columns
        → RowGoing frame from before above here columns (set table (here + c) (get_or table (above + c) 0 + run)) (run + x) (c + 1)
    row-more x e b h = record {
      low = omega arith;
      long = length-set table _ _ ∙ g.long;
      small = omega arith;
      sum = ap₂ ◌+◌ g.sum e ∙ sym (sum_to_more _ c);
      filled = row_filled;
    }
