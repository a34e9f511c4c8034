-- Whatever the distances are, each candidate is dropped or remains: so dropped and finally measured add up, and no count exceeds the candidates.
use Prim.Native.Nat.{ℕ, ◌+◌, ◌-◌, ◌≤◌, ◌<◌}
use mathlib.Core.Path.{◌≡◌, sym, ap, ◌∙◌}
use mathlib.Core.List.{List, [], ◌∷◌, ◌++◌}
use native.Mathlib.Omega.{arith}
use lib.ListN.{length, get_or, replicate, length-append, length-replicate}
use lib.Seq.{get_or-append-add, get_or-append_seam}
use Rattle.base.specs.AtMost.{AtMost, none_most, one_most, zeros_most, append_most}
use Rattle.frame.specs.Pictures.{count_number, last_count}
use Rattle.pruned_rule.specs.Sift.{exceeding, total}
use Rattle.pruned_rule.specs.Prune.{Pruning, all_remaining, lower, sift, rounds, prune, counts}
use Rattle.pruned_rule.proofs.Parts.{parted, parted_total, total_length, total_append}

-- what holds after each step, of the candidates ks
pub record Counted (ks : List ℕ) (s : Pruning) : Type 0 where
  -- left and dropped together have each candidate just as often as ks has it: every sum over them agrees
  pub parts : (g : ℕ → ℕ) → total g s.left + total g s.dropped ≡ total g ks
  tested : AtMost (length ks) s.tested

pub counted_length : {ks : List ℕ} {s : Pruning} → Counted ks s → length s.dropped + length s.left ≡ length ks
counted_length {ks} {s} c = omega (arith, c.parts (λ k. 1), total_length ks, total_length s.left, total_length s.dropped)

pub all_remaining_counted : (e : ℕ) (ks : List ℕ) → Counted ks (all_remaining e ks)
unfolding all_remaining total
all_remaining_counted e ks = record { parts = λ g. omega arith; tested = none_most _ }

module _ (D : ℕ → ℕ) (dist limit : ℕ → ℕ → ℕ) (ks : List ℕ) where
  pub lower_counted : (m : ℕ) (s : Pruning) → Counted ks s → Counted ks (lower D dist m s)
  unfolding lower
  lower_counted m s c = record { parts = c.parts; tested = c.tested }

  pub sift_counted : (m : ℕ) (s : Pruning) → Counted ks s → Counted ks (sift dist limit m s)
  unfolding sift
  sift_counted m s c = record {
    parts = λ g.
        omega (
          arith,
          c.parts g,
          parted_total g (parted (dist m) (limit m s.bound) s.left),
          total_append g s.dropped (exceeding (dist m) (limit m s.bound) s.left),
        );
    tested = append_most (length ks) s.tested _ c.tested (one_most (length ks) (length s.left) (omega (arith, counted_length c)));
  }

  rounds_counted : (ms : List ℕ) (s : Pruning) → Counted ks s → Counted ks (rounds D dist limit ms s)
  unfolding rounds
  rounds_counted [] s c = c
  rounds_counted (m ∷ ms) s c = rounds_counted ms _ (sift_counted m _ (lower_counted m s c))

-- each round tests once
pub tested_rounds : (D : ℕ → ℕ) (dist limit : ℕ → ℕ → ℕ) (ms : List ℕ) (s : Pruning) → length (rounds D dist limit ms s).tested ≡ length s.tested + length ms
unfolding rounds sift lower
tested_rounds D dist limit [] s = omega arith
tested_rounds D dist limit (m ∷ ms) s =
    omega (arith, tested_rounds D dist limit ms (sift dist limit m (lower D dist m s)), length-append s.tested (length s.left ∷ []))

-- the last of the counts, with zeros in front
last_of_counts : (t : List ℕ) (l : ℕ) → length t ≤ last_count → get_or (replicate (count_number - length (t ++ (l ∷ []))) 0 ++ (t ++ (l ∷ []))) last_count 0 ≡ l
last_of_counts t l h =
    let e : count_number - length (t ++ (l ∷ [])) + length t ≡ last_count = omega (arith, length-append t (l ∷ [])) in
    ap (λ (i : ℕ). get_or (replicate (count_number - length (t ++ (l ∷ []))) 0 ++ (t ++ (l ∷ []))) i 0)
    (sym e ∙ ap (λ (i : ℕ). i + length t) (sym (length-replicate (count_number - length (t ++ (l ∷ []))) 0)))
    ∙ get_or-append-add (replicate (count_number - length (t ++ (l ∷ []))) 0) (t ++ (l ∷ [])) (length t) 0
    ∙ get_or-append_seam t l [] 0

module _ (e : ℕ) (D : ℕ → ℕ) (dist limit : ℕ → ℕ → ℕ) (N : ℕ) (ms ks : List ℕ) where
  pub prune_counted : Counted ks (prune e D dist limit N ms ks)
  unfolding prune
  prune_counted = rounds_counted D dist limit ks ms _ (sift_counted D dist limit ks N _ (all_remaining_counted e ks))

  -- dropped and finally measured are all of them
  pub search_counts : length (prune e D dist limit N ms ks).dropped + length (prune e D dist limit N ms ks).left ≡ length ks
  search_counts = counted_length prune_counted

  pub dropped_few : length (prune e D dist limit N ms ks).dropped ≤ length ks
  dropped_few = omega (arith, search_counts)

  pub counts_few : (j : ℕ) → get_or (counts (prune e D dist limit N ms ks)) j 0 ≤ length ks
  unfolding counts
  counts_few =
      let s = prune e D dist limit N ms ks in
      let c = s.tested ++ (length s.left ∷ []) in
      let rest : length s.left ≤ length ks = omega (arith, search_counts) in
      append_most (length ks) (replicate (count_number - length c) 0) c (zeros_most (length ks) (count_number - length c))
      (append_most (length ks) s.tested (length s.left ∷ []) prune_counted.tested (one_most (length ks) (length s.left) rest))

  tested_few : length ms < last_count → length (prune e D dist limit N ms ks).tested ≤ last_count
  unfolding prune all_remaining sift
  tested_few h = omega (arith, tested_rounds D dist limit ms (sift dist limit N (all_remaining e ks)))

  -- the count at m = 1 is how many are finally measured
  pub last-count : length ms < last_count → get_or (counts (prune e D dist limit N ms ks)) last_count 0 ≡ length (prune e D dist limit N ms ks).left
  unfolding counts
  last-count h = last_of_counts (prune e D dist limit N ms ks).tested (length (prune e D dist limit N ms ks).left) (tested_few h)
