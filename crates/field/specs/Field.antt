-- 01, "Field, reading, track": "A field fills a lent list of 32-bit signed numbers, three a grid block: dy, dx, distortion; it answers with the
-- reading and, summed over the blocks, counts and dropped." "Search 2 also fills a lent table of unsigned 32-bit sums: place r × (width + 1) + c
-- holds the sum of older pels in rows before r and columns before c, r to height, c to width. Searches 1, 3 and 4 leave that table unchanged.
-- Places past the used part of any lent memory keep what they held." 02, request 3: "The reading gives votes and voters; a field call without a voter
-- reads (0,0), 0 and 0."
--   entry_of, entries_of   the three numbers of a block, and of all grid blocks in order
--   table_of              the table of sums
--   count_over            a count, summed over the blocks
--   field_answer          what an accepted call answers; refused_field: a refused one
--   FieldResult          what a field call answers, with what list and table then hold: field; accepted_field: of an accepted call
use Rattle.std.specs.Prelude.{ℕ, ◌≡◌, cond, List, [], ◌∷◌, ◌++◌, eqb, ℤ, pos, length, get_or, drop}
use Rattle.std.proofs.Common.{ap, sym, ◌∙◌, ne_eqb}
use Rattle.std.proofs.Math.Decide.{ℕ_discrete}
use Rattle.base.specs.Sum.{sum_to}
use Rattle.base.specs.Lists.{concat_to, list_to}
use Rattle.frame.specs.declared.Setting.{Setting}
use Rattle.refusals.specs.declared.Request.{Request}
use Rattle.frame.specs.Pictures.{Pair, pair_of, count_number}
use Rattle.frame.specs.Grid.{blocks}
use Rattle.refusals.specs.Refusals.{setting_of}
use Rattle.distortion.specs.Blocks.{block_at}
use Rattle.search.specs.declared.SearchResult.{SearchResult}
use Rattle.search.specs.SearchResult.{only_at_one}
use Rattle.pruned_sums.specs.Area.{summed}
use Rattle.voter.specs.Voter.{voting}
use Rattle.reading.specs.Reading.{voters, votes, majority}
use Rattle.field_rules.specs.Rules.{table_size, list_size, field_refusal}
use Rattle.field_block.specs.Blocks.{search_at, vector_of}
use Rattle.field.specs.declared.FieldAnswer.{FieldAnswer}

-- ---- list and table

abbrev pub entry_of : SearchResult → List ℤ
entry_of f = f.dy ∷ f.dx ∷ pos f.distortion ∷ []

unfoldable pub entries_of : (ℕ → SearchResult) → ℕ → List ℤ
entries_of found n = concat_to (λ k. entry_of (found k)) n

unfoldable pub table_of : List ℕ → Setting → List ℕ
table_of older s = summed (block_at older s.width 0 0) s.height s.width

-- ---- the answer

-- the count at place i of six (m = 32, 16, 8, 4, 2, 1), over the first n blocks
abbrev pub count_over : (ℕ → SearchResult) → ℕ → ℕ → ℕ
count_over found n i = sum_to (λ k. get_or (found k).counts i 0) n

abbrev pub counts_over : (ℕ → SearchResult) → ℕ → List ℕ
counts_over found n = list_to (count_over found n) count_number

abbrev pub dropped_over : (ℕ → SearchResult) → ℕ → ℕ
dropped_over found n = sum_to (λ k. (found k).dropped) n

unfoldable pub field_answer : Pair → Request → FieldAnswer
field_answer p q =
    let n = blocks p.setting in
    let reading = majority (voting p) (vector_of p q) n in
    record {
      refusal = 0;
      dy = reading.dy;
      dx = reading.dx;
      votes = votes (voting p) (vector_of p q) n reading;
      voters = voters (voting p) n;
      counts = counts_over (search_at p q) n;
      dropped = dropped_over (search_at p q) n;
    }

abbrev pub refused_field : ℕ → FieldAnswer
refused_field refusal = record { refusal = refusal; dy = pos 0; dx = pos 0; votes = 0; voters = 0; counts = only_at_one 0; dropped = 0 }

-- ---- the call

pub record FieldResult : Type 0 where
  pub answer : FieldAnswer
  pub list : List ℤ
  pub table : List ℕ

abbrev pub field_result : FieldAnswer → List ℤ → List ℕ → FieldResult
field_result answer list table = record { answer = answer; list = list; table = table }

-- an accepted call
abbrev pub filled_list : Pair → Request → List ℤ → List ℤ
filled_list p q list = entries_of (search_at p q) (blocks p.setting) ++ drop (list_size p.setting) list

abbrev pub filled_table : List ℕ → Request → List ℕ → List ℕ
filled_table older q table = let s = setting_of q in cond (eqb q.search 2) (table_of older s ++ drop (table_size s) table) table

abbrev pub accepted_field : List ℕ → List ℕ → Request → List ℤ → List ℕ → FieldResult
accepted_field older newer q list table =
    let p = pair_of older newer (setting_of q) in
    field_result (field_answer p q) (filled_list p q list) (filled_table older q table)

unfoldable pub field : List ℕ → List ℕ → Request → List ℤ → List ℕ → FieldResult
field older newer q list table =
    let refusal = field_refusal (length older) (length newer) q (length list) (length table) in
    cond (eqb refusal 0) (accepted_field older newer q list table) (field_result (refused_field refusal) list table)

module _ (older newer : List ℕ) (q : Request) (list : List ℤ) (table : List ℕ) where
  abbrev pub refusal_is : ℕ
  refusal_is = field_refusal (length older) (length newer) q (length list) (length table)

  pub field_refused : (refusal_is ≡ 0 → ⊥) → field older newer q list table ≡ field_result (refused_field refusal_is) list table
  unfolding field
  field_refused h = rw (ne_eqb _ 0 h)

  -- a call that answers 0 was accepted
  pub field_unrefused : (field older newer q list table).answer.refusal ≡ 0 → refusal_is ≡ 0
  field_unrefused e = go (ℕ_discrete refusal_is 0)
    where
      go : Dec (refusal_is ≡ 0) → refusal_is ≡ 0
      go (yes h) = h
      go (no h) = sym (ap (λ (f : FieldResult). f.answer.refusal) (field_refused h)) ∙ e

  pub field_accepted : refusal_is ≡ 0 → field older newer q list table ≡ accepted_field older newer q list table
  unfolding field
  field_accepted h = rw h
