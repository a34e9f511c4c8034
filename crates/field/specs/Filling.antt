-- How the field is filled, block by block.
--   Summable      what the table of sums asks
--   total_over     counts, dropped and voters of the first n blocks
--   BlocksFilled  the first n blocks stand in the list, and behind them what it held; the votes of those that vote are counted, and the sums made
use Rattle.std.specs.Prelude.{ℕ, ◌*◌, ◌≤◌, ◌<◌, ◌≡◌, Bool, List, ◌++◌, ℤ, length, drop}
use Rattle.refusals.specs.declared.Request.{Request}
use Rattle.refusals.specs.Refusals.{setting_of}
use Rattle.search.specs.declared.SearchResult.{SearchResult}
use Rattle.search.specs.SearchResult.{vector_in}
use Rattle.reading.specs.Reading.{voters}
use Rattle.reading.specs.Tally.{Tally}
use Rattle.field_rules.specs.Rules.{table_size}
use Rattle.field_block.specs.declared.Total.{Total}
use Rattle.field_block.specs.Blocks.{Sound, as_total}
use Rattle.field.specs.Field.{counts_over, dropped_over, entries_of}

pub record Summable (older : ℕ) (q : Request) (table : ℕ) : Type 0 where
  pub wide : q.width ≤ 1024
  pub high : q.height ≤ 1024
  pub whole : older ≡ q.height * q.width
  pub room : q.search ≡ 2 → table_size (setting_of q) ≤ table

unfoldable pub total_over : (ℕ → Bool) → (ℕ → SearchResult) → ℕ → Total
total_over voting found n = as_total (counts_over found n) (dropped_over found n) (voters voting n)

pub record BlocksFilled (voting : ℕ → Bool) (found : ℕ → SearchResult) (n : ℕ) (before after : List ℤ) (votes : List ℕ) (total : Total) : Type 0 where
  pub sound : (k : ℕ) → k < n → Sound (found k)
  pub long : length after ≡ length before
  pub list : after ≡ entries_of found n ++ drop (3 * n) before
  pub tally : Tally voting (λ k. vector_in (found k)) n votes
  pub sums : total ≡ total_over voting found n
