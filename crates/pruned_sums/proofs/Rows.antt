-- The loop over the rows of the summed-area table: the sums before row r + 1 are those before row r and the sums of row r.
use Prim.Native.Nat.{ℕ, zero, suc, ◌+◌, ◌*◌, ◌≤◌, ◌<◌}
use mathlib.Core.Path.{◌≡◌, refl, sym, ap, ◌∙◌}
use mathlib.Core.List.{List, ◌++◌}
use native.Mathlib.Nat.{mul-le-mul, zero-mul, one-mul, add-zero, add_assoc}
use native.Mathlib.Omega.{arith}
use native.Mathlib.Numerals.{add-one}
use lib.ListN.{length, get_or, drop, replicate, length-replicate}
use Rattle.std.proofs.lemmas.List.{replicate_more}
use Rattle.base.specs.Sum.{sum_to, sum_to_ext, sum_to_more, sum_over_bound}
use Rattle.base.specs.Index.{row_next, row_fits}
use Rattle.base.specs.Lists.{list_to, concat_to, fill_to, list_to_ext, concat_to_more, length_fill, drop_over, fill_join}
use Rattle.distortion.specs.Blocks.{block_at}
use Rattle.frame.specs.declared.Region.{Region}
use Rattle.pruned_sums.specs.Area.{area, sums_row, sums_to, summed, length_sums, sums_at}
use Rattle.pruned_sums.specs.Filling.{next_row, Fillable}

list_of_zeros : (n : ℕ) → list_to {A = ℕ} (λ i. 0) n ≡ replicate n 0
unfolding list_to
list_of_zeros zero = refl
list_of_zeros (suc n) = rw (list_of_zeros n, replicate_more, add-one)

module _ (frame : List ℕ) (width : ℕ) (a : Region) where
  abbrev part : ℕ → ℕ → ℕ
  part = block_at frame width a.top a.left

  -- `before` is the table with its first row made 0; row r, at `here`, is the last that is made, and `from` the place of the pels of row r
  pub record SumsGoing (before table : List ℕ) (r from here : ℕ) : Type 0 where
    pub low : r ≤ a.rows
    pub long : length table ≡ length before
    pub from_is : from ≡ (a.top + r) * width + a.left
    pub here_is : here ≡ r * (a.columns + 1)
    pub filled : table ≡ sums_to part a.columns (r + 1) ++ drop ((r + 1) * (a.columns + 1)) before

  -- the first row has room
  pub sums_ready : (room : ℕ) → Fillable frame width a room → a.columns + 1 ≤ room
  sums_ready room f = omega (arith, f.table, row_next a.rows (a.columns + 1))

  abbrev zeros : List ℕ
  zeros = replicate (a.columns + 1) 0

  abbrev cleared : List ℕ → List ℕ
  cleared d = zeros ++ drop (a.columns + 1) d

  -- row 0 is all 0
  sums_one : sums_to part a.columns 1 ≡ zeros
  unfolding concat_to sum_to
  sums_one = list_of_zeros (a.columns + 1)

  sums_front : (d : List ℕ) → cleared d ≡ sums_to part a.columns 1 ++ drop (1 * (a.columns + 1)) (cleared d)
  sums_front d =
      rw (one-mul, sums_one, drop_over zeros d (a.columns + 1) (a.columns + 1) (length-replicate (a.columns + 1) 0) (omega arith))

  pub sums_first : (d : List ℕ) → SumsGoing (cleared d) (cleared d) 0 (a.top * width + a.left) 0
  sums_first d = record {
    low = omega arith;
    long = refl;
    from_is = rw add-zero;
    here_is = sym (zero-mul (a.columns + 1));
    filled = sums_front d;
  }

  module _ (before table : List ℕ) (r from here : ℕ) (g : SumsGoing before table r from here) where
    pub sums_read : (c : ℕ) → c ≤ a.columns → get_or table (here + c) 0 ≡ area part r c
    sums_read c h = rw (g.filled, g.here_is) (sums_at part a.columns (r + 1) r c _ (omega arith) h)

    module _ (f : Fillable frame width a (length before)) where
      -- the entries of row r fit
      pub sums_small : ((k : ℕ) → get_or frame k 0 ≤ 255) → (c : ℕ) → c ≤ a.columns → get_or table (here + c) 0 ≤ 267386880
      sums_small b c h =
          let m : r * (c * 255) ≤ 1024 * (1024 * 255) =
          mul-le-mul {n₂ = 1024} {m₂ = 1024 * 255} (omega (arith, g.low, f.high)) (omega (arith, f.across, f.wide)) in
          rw (sums_read c h) (omega (arith, sum_over_bound 255 r c part (λ i j hi hj. b _)))

      module _ (h : r < a.rows) where
        -- the next row has room
        pub sums_room : here + (a.columns + 1) + (a.columns + 1) ≤ length table
        sums_room =
            omega (arith, g.here_is, g.long, f.table, row_next r (a.columns + 1), row_fits (r + 1) (a.rows + 1) (a.columns + 1) (omega arith))

        -- the pels of row r lie in the frame
        pub sums_pels : from + a.columns ≤ length frame
        sums_pels = omega (arith, g.from_is, f.across, f.down, row_fits (a.top + r) (a.top + a.rows) width (omega arith))

        sums-row : list_to (next_row frame from table here) (a.columns + 1) ≡ sums_row part a.columns (r + 1)
        sums-row =
            list_to_ext _ _ (a.columns + 1) (λ c l.
            rw (sums_read c (omega arith), g.from_is)
            (ap (◌+◌ (area part r c)) (row c) ∙ sym (sum_to_more _ r)))
          where
            row : (c : ℕ) → sum_to (λ j. get_or frame ((a.top + r) * width + a.left + j) 0) c ≡ sum_to (λ j. part r j) c
            row c = sum_to_ext _ _ c (λ j l. rw add_assoc)

        pub sums_more :
            SumsGoing before (fill_to table (here + (a.columns + 1)) (next_row frame from table here) (a.columns + 1))
            (r + 1) (from + width) (here + (a.columns + 1))
        sums_more = record {
          low = omega arith;
          long = length_fill table _ _ (a.columns + 1) sums_room ∙ g.long;
          from_is = omega (arith, g.from_is, row_next (a.top + r) width);
          here_is = omega (arith, g.here_is, row_next r (a.columns + 1));
          filled =
              let e : here + (a.columns + 1) ≡ (r + 1) * (a.columns + 1) = omega (arith, g.here_is, row_next r (a.columns + 1)) in
              ap (λ (t : List ℕ). fill_to t (here + (a.columns + 1)) (next_row frame from table here) (a.columns + 1)) g.filled
              ∙ rw (e, fill_join (sums_to part a.columns (r + 1)) before _ (a.columns + 1) _ (length_sums part a.columns (r + 1)), sums-row)
              (rw (concat_to_more _ (r + 1), row_next (r + 1) (a.columns + 1)));
        }

  -- all rows are made
  pub sums_last : (d table : List ℕ) (r from here : ℕ) → a.rows ≤ r → SumsGoing (cleared d) table r from here
      → table ≡ summed part a.rows a.columns ++ drop ((a.rows + 1) * (a.columns + 1)) d
  unfolding summed
  sums_last d table r from here h g =
      let e : r ≡ a.rows = omega arith in
      rw (g.filled, e)
      (ap (◌++◌ (sums_to part a.columns (a.rows + 1)))
      (drop_over zeros d (a.columns + 1) ((a.rows + 1) * (a.columns + 1))
      (length-replicate (a.columns + 1) 0) (omega (arith, row_next a.rows (a.columns + 1)))))
