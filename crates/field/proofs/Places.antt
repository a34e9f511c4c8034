-- What list and table hold after an accepted call, place by place: the blocks' entries, and the rows of the table, stand one behind the other, each as
-- long as the next, and behind them is what was lent.
use Prim.Native.Nat.{ℕ, ◌+◌, ◌*◌, ◌≤◌, ◌<◌}
use mathlib.Core.Path.{◌≡◌, refl, ◌∙◌}
use mathlib.Core.List.{List, ◌++◌}
use native.Mathlib.Omega.{arith}
use lib.IntN.{ℤ, pos}
use lib.ListN.{length, get_or, drop, get_or-append}
use lib.Seq.{get_or-drop}
use Rattle.base.specs.Index.{row_fits}
use Rattle.base.specs.Lists.{concat_to, length_concat_to, get_d_concat_to, get_d_past}
use Rattle.frame.specs.declared.Setting.{Setting}
use Rattle.distortion.specs.Blocks.{block_at}
use Rattle.search.specs.declared.SearchResult.{SearchResult}
use Rattle.pruned_sums.specs.Area.{area, summed, length_sums, sums_at}
use Rattle.field_rules.specs.Rules.{table_size}
use Rattle.field.specs.Field.{entry_of, entries_of, table_of}

module _ (found : ℕ → SearchResult) (n : ℕ) where
  pub length_entries : length (entries_of found n) ≡ 3 * n
  unfolding entries_of
  length_entries = omega (arith, length_concat_to (λ k. entry_of (found k)) 3 (λ i. refl) n)

  -- block k's dy, dx and distortion: places 3 k, 3 k + 1 and 3 k + 2
  pub entry_at : (rest : List ℤ) (k j : ℕ) → k < n → j < 3 → get_or (entries_of found n ++ rest) (3 * k + j) (pos 0) ≡ get_or (entry_of (found k)) j (pos 0)
  unfolding entries_of
  entry_at rest k j h l =
      let e : 3 * k + j ≡ k * 3 + j = omega arith in
      rw e
      (get_or-append (concat_to (λ k. entry_of (found k)) n) rest (pos 0) (k * 3 + j)
      (omega (arith, row_fits k n 3 h, length_concat_to (λ k. entry_of (found k)) 3 (λ i. refl) n))
      ∙ get_d_concat_to (λ k. entry_of (found k)) 3 (λ i. refl) n k j (pos 0) h l)

  -- past them the list is as it was
  pub entry_past : (list : List ℤ) (i : ℕ) → get_or (entries_of found n ++ drop (3 * n) list) (3 * n + i) (pos 0) ≡ get_or list (3 * n + i) (pos 0)
  entry_past list i = get_d_past (entries_of found n) _ (3 * n) i (pos 0) length_entries ∙ get_or-drop (3 * n) list i (pos 0)

module _ (older : List ℕ) (s : Setting) where
  -- the sum of older pels in rows before r and columns before c: place r × (width + 1) + c
  pub table_at : (rest : List ℕ) (r c : ℕ) → r ≤ s.height → c ≤ s.width
      → get_or (table_of older s ++ rest) (r * (s.width + 1) + c) 0 ≡ area (block_at older s.width 0 0) r c
  unfolding table_of summed
  table_at rest r c hr hc = sums_at (block_at older s.width 0 0) s.width (s.height + 1) r c rest (omega arith) hc

  -- past them the table is as it was
  pub table_past : (table : List ℕ) (i : ℕ) → get_or (table_of older s ++ drop (table_size s) table) (table_size s + i) 0 ≡ get_or table (table_size s + i) 0
  unfolding table_of summed
  table_past table i =
      get_d_past (table_of older s) _ (table_size s) i 0 (length_sums (block_at older s.width 0 0) s.width (s.height + 1))
      ∙ get_or-drop (table_size s) table i 0
