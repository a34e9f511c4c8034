-- The grid loop: before the first block, one block more, and what the first n blocks leave. A block puts three numbers behind those before it, votes
-- once if it is a voter, and adds its counts; no sum exceeds 1,089 a block.
use Prim.Native.Nat.{ℕ, ◌+◌, ◌*◌, ◌≤◌, ◌<◌}
use mathlib.Core.Path.{◌≡◌, refl, sym, ap, ap₂, ◌∙◌}
use mathlib.Core.Bool.{Bool}
use mathlib.Core.List.{List, ◌++◌}
use mathlib.Core.Logic.{⊎_elim}
use native.Mathlib.Nat.{le_trans, mul-le-mul_right, eq-or-lt_of_le}
use native.Mathlib.Numerals.{add-one}
use native.Mathlib.Omega.{arith}
use lib.IntN.{ℤ}
use lib.Seq.{sets, sets-eq, take_at, length-sets}
use lib.ListN.{length, take, drop, replicate}
use Rattle.base.specs.Tests.{one_le}
use Rattle.base.specs.Sum.{sum_to, sum_to_bound}
use Rattle.base.specs.Lists.{concat_to, concat_to_more, drop_over, list_to, length_list_to}
use Rattle.order.specs.Vectors.{vector_count}
use Rattle.base.specs.AtMost.{list_to_most}
use Rattle.refusals.specs.declared.Request.{Request}
use Rattle.frame.specs.Pictures.{Pair, count_number}
use Rattle.frame.specs.Grid.{blocks}
use Rattle.search.specs.declared.SearchResult.{SearchResult}
use Rattle.search.specs.SearchResult.{vector_in}
use Rattle.reading.specs.declared.Reading.{Reading}
use Rattle.voter.specs.Voter.{voting}
use Rattle.reading.specs.Reading.{voters, reading_of}
use Rattle.reading.specs.Tally.{voted}
use Rattle.reading.proofs.Tally.{tally_first, tally_more}
use Rattle.field_block.specs.declared.Total.{Total}
use Rattle.field_block.specs.Blocks.{search_at, vector_of, Sound, as_total, join, Bounded}
use Rattle.field.specs.Field.{count_over, entry_of, entries_of, field_answer}
use Rattle.field.proofs.Places.{length_entries}
use Rattle.field.specs.Filling.{total_over, BlocksFilled}

pub filled_first : (voting : ℕ → Bool) (found : ℕ → SearchResult) (list : List ℤ) (votes : List ℕ) → votes ≡ replicate vector_count 0
    → BlocksFilled voting found 0 list list votes (as_total (replicate count_number 0) 0 0)
unfolding entries_of concat_to total_over voters sum_to list_to
filled_first voting found list votes e = record {
  sound = λ k h. absurd (omega arith);
  long = refl;
  list = refl;
  tally = rw e (tally_first _ _);
  sums = refl;
}

module _ (voting : ℕ → Bool) (found : ℕ → SearchResult) (n : ℕ) (before after : List ℤ) (votes : List ℕ) (total : Total)
    (f : BlocksFilled voting found n before after votes total)
  where
    -- a sum over the blocks
    most : n ≤ 1048576 → (g : ℕ → ℕ) → ((k : ℕ) → k < n → g k ≤ vector_count) → sum_to g n ≤ 1141899264
    most few g h = le_trans (sum_to_bound vector_count g n h) (mul-le-mul_right vector_count few)

    pub filled_few : n ≤ 1048576 → Bounded total
    unfolding total_over voters
    filled_few few =
        rw f.sums
        (record {
          long = length_list_to (count_over found n) count_number;
          count = list_to_most 1141899264 (count_over found n) count_number (λ i. most few _ (λ k h. (f.sound k h).count i));
          dropped = most few _ (λ k h. (f.sound k h).dropped);
          voters = omega (arith, sum_to_bound 1 _ n (λ k h. one_le (voting k)));
        })

    total_more : join total (found n) (voting n) ≡ total_over voting found (n + 1)
    unfolding total_over voters sum_to list_to
    total_more = rw (f.sums, add-one n)

    list_more : 3 * n + 3 ≤ length before → sets after (3 * n) (entry_of (found n)) ≡ entries_of found (n + 1) ++ drop (3 * (n + 1)) before
    unfolding entries_of
    list_more h =
        let next : 3 * (n + 1) ≡ 3 * n + 3 = omega arith in
        let made = length_entries found n in
        rw next
        (sets-eq (entry_of (found n)) after (3 * n) (omega (arith, f.long))
        ∙ ap (λ (l : List ℤ). take (3 * n) l ++ entry_of (found n) ++ drop (3 * n + 3) l) f.list
        ∙ ap₂ (λ (p q : List ℤ). p ++ entry_of (found n) ++ q)
        (take_at (entries_of found n) (drop (3 * n) before) (3 * n) made)
        (drop_over (entries_of found n) before (3 * n) (3 * n + 3) made (omega arith))
        ∙ ap (λ (l : List ℤ). l ++ drop (3 * n + 3) before) (sym (concat_to_more (λ k. entry_of (found k)) n)))

    pub filled_more : (r : SearchResult) (b : Bool) → r ≡ found n → b ≡ voting n → Sound r → 3 * n + 3 ≤ length before
        → BlocksFilled voting found (n + 1) before (sets after (3 * n) (entry_of r)) (voted votes (vector_in r) b) (join total r b)
    filled_more r b e v s h = record {
      sound = λ k l. ⊎_elim (λ (i : k ≡ n). rw (i, ← e) s) (f.sound k) (eq-or-lt_of_le (omega (arith, l)));
      long = length-sets after (3 * n) (entry_of r) ∙ f.long;
      list = rw e (list_more h);
      tally = tally_more _ _ n votes f.tally (vector_in r) b (ap vector_in e) v s.within;
      sums = rw (e, v) total_more;
    }

-- the answer, made of the sums and the reading
pub answer_is : (p : Pair) (q : Request) (total : Total) (r : Reading)
    → total ≡ total_over (voting p) (search_at p q) (blocks p.setting) → r ≡ reading_of (voting p) (vector_of p q) (blocks p.setting)
    → record {
      refusal = 0;
      dy = r.dy;
      dx = r.dx;
      votes = r.votes;
      voters = total.voters;
      counts = total.counts;
      dropped = total.dropped;
    }
    ≡ field_answer p q
unfolding total_over reading_of field_answer
answer_is p q total r e f = rw (e, f)
