-- Search 2 on a pair that an accepted step has, block by block and over the grid: at a block that stands wholly inside it finds the exhaustive best and counts
-- what it drops and measures, and every grid block stands so.
use Prim.Native.Nat.{ℕ, ◌+◌, ◌≤◌, ◌<◌}
use mathlib.Core.Path.{◌≡◌, refl, sym, ap, ◌∙◌}
use mathlib.Core.List.{List, ◌++◌}
use native.Mathlib.Omega.{arith}
use lib.Dec.{T, le→leb, lt→ltb}
use lib.IntN.{ℤ, pos}
use lib.Signed.{◌≤ℤ◌, ◌<ℤ◌, le_z_yes, lt_z_yes}
use Rattle.base.specs.Sum.{sum_to_ext, sum_to_add}
use Rattle.order.specs.declared.Vector.{Vector}
use Rattle.order.specs.Vectors.{Within}
use Rattle.frame.specs.Pictures.{Pair, Fitting, last_count}
use Rattle.frame.specs.Grid.{blocks, block_row, block_column, block_down, block_across}
use Rattle.frame.specs.Candidates.{candidate, candidate_yes}
use Rattle.refusals.specs.Refusals.{block_size_ok, window_ok, threshold_ok, request_of}
use Rattle.distortion.specs.Blocks.{distortion}
use Rattle.search.specs.declared.SearchResult.{SearchResult}
use Rattle.search.specs.SearchResult.{vector_in, probes}
use Rattle.search.specs.Exhaustive.{Best, best}
use Rattle.search.proofs.Exhaustive.{best_is}
use Rattle.probe.proofs.Probe.{within_more}
use Rattle.pruned.specs.Answer.{pruned_search}
use Rattle.pruned.proofs.Laws.{pruned_adds}
use Rattle.block.specs.Block.{search_fine, block_accepted, searched_pruned}
use Rattle.field_block.specs.Blocks.{search_at, vector_of}
use Rattle.field.specs.Field.{entries_of, dropped_over, count_over}
use Rattle.field.proofs.Places.{entry_at}
use Rattle.field.proofs.Bests.{Exact, pruned_exact, pruned_exact_at, exact_at, exact_reading, exact_votes, exact_entries}
use Rattle.voter.specs.Voter.{voting}
use Rattle.reading.specs.Reading.{votes, majority}
use Rattle.promise.specs.Demand.{best_of, best_entries, EachBlock, EachPlace, EachGridPlace, over_grid, reported, how_many, is_dropped, is_measured, block_on}
use Rattle.promise.proofs.Chains.{request_chain, Fine, fine_paired, request_any}
use Rattle.promise.proofs.Counting.{dropped_many, measured_many, dropped_worse}

-- the distortion listed for block k
pub entries_third : (found : ℕ → SearchResult) (n k : ℕ) (rest : List ℤ) → k < n → reported (entries_of found n ++ rest) k ≡ pos (found k).distortion
entries_third found n k rest h = entry_at found n rest k 2 h (omega arith)

pub pos_le : {a b : ℕ} → a ≤ b → pos a ≤ℤ pos b
pos_le {a} {b} h = le_z_yes (le→leb a b h)

pub pos_lt : {a b : ℕ} → a < b → pos a <ℤ pos b
pos_lt {a} {b} h = lt_z_yes (lt→ltb a b h)

-- ---- a pair and a window that an accepted step has

-- a list reports each grid block's exhaustive best
abbrev pub Lists : Pair → ℕ → List ℤ → Type 0
Lists p w list = EachGridPlace p (λ k y x. reported list k ≡ pos (distortion p y x (best p w y x)))

module _ (p : Pair) (w : ℕ) (f : Fine p w) where
  fits : Fitting p.setting
  fits = (fine_paired p f).fitting

  allowed : T (block_size_ok p.setting.n)
  allowed = (fine_paired p f).allowed

  pub each_place : EachPlace p (λ y x. Best p w y x (best p w y x))
  each_place y x hy hx = best_is p w y x f.small hy hx

  pub best_within : EachBlock p (λ k. Within 16 (best_of p w k))
  best_within k h =
      let b = each_place (block_row p.setting k) (block_column p.setting k) (block_down p.setting fits k h) (block_across p.setting fits k h) in
      within_more f.small b.candidate.window

  -- search 2
  exact : (t : ℕ) → Exact p (request_of p.setting 2 w t)
  exact t = pruned_exact p (request_of p.setting 2 w t) allowed f.small refl

  -- at a place
  module _ (y x : ℕ) (hy : y + p.setting.n ≤ p.setting.height) (hx : x + p.setting.n ≤ p.setting.width) where
    request_two : request_chain p 2 w 0 ≡ 0
    unfolding window_ok threshold_ok
    request_two = request_any p 2 w 0 f tt (le→leb w 16 f.small) tt

    single_is : block_on p 2 w 0 y x ≡ pruned_search p w y x
    single_is =
        block_accepted p.older p.newer (request_of p.setting 2 w 0) y x (search_fine _ _ (request_of p.setting 2 w 0) y x request_two hy hx)
        ∙ searched_pruned p (request_of p.setting 2 w 0) y x refl

    unrefused : (pruned_search p w y x).refusal ≡ 0
    unfolding pruned_search
    unrefused = refl

    pub block_result : let r = block_on p 2 w 0 y x in
        (r.refusal ≡ 0) × (vector_in r ≡ best p w y x) × (r.distortion ≡ distortion p y x (best p w y x))
        × (r.dropped ≡ how_many (is_dropped p w y x)) × (probes r ≡ how_many (is_measured p w y x))
        × (r.dropped + probes r ≡ how_many (candidate p.setting w y x))
    block_result =
        rw single_is (
          unrefused,
          (pruned_exact_at p w y x allowed f.small hy hx).0,
          (pruned_exact_at p w y x allowed f.small hy hx).1,
          dropped_many p w y x allowed f.small hy hx,
          measured_many p w y x allowed f.small hy hx,
          pruned_adds p w y x allowed,
        )

  -- at grid block k
  module _ (t k : ℕ) (h : k < blocks p.setting) where
    abbrev y : ℕ
    y = block_row p.setting k

    abbrev x : ℕ
    x = block_column p.setting k

    abbrev found : SearchResult
    found = search_at p (request_of p.setting 2 w t) k

    found_is : found ≡ pruned_search p w y x
    unfolding search_at
    found_is = searched_pruned p (request_of p.setting 2 w t) y x refl

    hy : y + p.setting.n ≤ p.setting.height
    hy = block_down p.setting fits k h

    hx : x + p.setting.n ≤ p.setting.width
    hx = block_across p.setting fits k h

    pub grid_distortion : found.distortion ≡ distortion p y x (best_of p w k)
    grid_distortion = (exact_at p (request_of p.setting 2 w t) fits (exact t) k h).1

    grid_dropped : found.dropped ≡ how_many (is_dropped p w y x)
    grid_dropped = ap (λ (r : SearchResult). r.dropped) found_is ∙ dropped_many p w y x allowed f.small hy hx

    grid_measured : probes found ≡ how_many (is_measured p w y x)
    grid_measured = ap probes found_is ∙ measured_many p w y x allowed f.small hy hx

    grid_adds : found.dropped + probes found ≡ how_many (candidate p.setting w y x)
    grid_adds = ap (λ (r : SearchResult). r.dropped + probes r) found_is ∙ pruned_adds p w y x allowed

    pub grid_no_less : (v : Vector) → T (candidate p.setting w y x v) → found.distortion ≤ distortion p y x v
    grid_no_less v c = rw grid_distortion ((each_place y x hy hx).least v (candidate_yes p.setting w y x v c))

    pub grid_worse : (v : Vector) → T (is_dropped p w y x v) → found.distortion < distortion p y x v
    grid_worse v d = rw found_is (dropped_worse p w y x allowed f.small hy hx v d)

  -- over the grid
  module _ (t : ℕ) where
    abbrev founds : ℕ → SearchResult
    founds = search_at p (request_of p.setting 2 w t)

    pub reading_best : majority (voting p) (vector_of p (request_of p.setting 2 w t)) (blocks p.setting)
        ≡ majority (voting p) (best_of p w) (blocks p.setting)
    reading_best = exact_reading p (request_of p.setting 2 w t) fits (exact t)

    pub votes_best : (v : Vector) → votes (voting p) (vector_of p (request_of p.setting 2 w t)) (blocks p.setting) v
        ≡ votes (voting p) (best_of p w) (blocks p.setting) v
    votes_best = exact_votes p (request_of p.setting 2 w t) fits (exact t)

    pub entries_best : entries_of founds (blocks p.setting) ≡ best_entries p w
    unfolding best_entries
    entries_best = exact_entries p (request_of p.setting 2 w t) fits (exact t)

    pub sum_dropped : dropped_over founds (blocks p.setting) ≡ over_grid p (λ y x. how_many (is_dropped p w y x))
    sum_dropped = sum_to_ext _ _ (blocks p.setting) (λ k h. grid_dropped t k h)

    pub sum_measured : count_over founds (blocks p.setting) last_count ≡ over_grid p (λ y x. how_many (is_measured p w y x))
    sum_measured = sum_to_ext _ _ (blocks p.setting) (λ k h. grid_measured t k h)

    pub sum_both : dropped_over founds (blocks p.setting) + count_over founds (blocks p.setting) last_count ≡ over_grid p (λ y x. how_many (candidate p.setting w y x))
    sum_both = sym (sum_to_add _ _ (blocks p.setting)) ∙ sum_to_ext _ _ (blocks p.setting) (λ k h. grid_adds t k h)
