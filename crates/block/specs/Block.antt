-- 01, "Field, reading, track": "A single-block search takes neither list nor table; its block stands at any pel row and column."
--   search_refusal   1 2 3 4 51 5 6 7: a request, and the block's place
--   search_block     the answer: the number and zeros, or what the requested search finds
--   OwnResult       what every search owes: its vector is a candidate, with its own distortion
-- The counts of four-step where a block stands clear of every border: proofs/Unclipped.antt.
use Rattle.std.specs.Prelude.{ℕ, ◌+◌, ◌≤◌, ◌≡◌, cond, List, eqb, length}
use Rattle.std.proofs.Common.{ap, sym, ◌∙◌, ne_eqb, le-leb}
use Rattle.std.proofs.Math.Decide.{ℕ_discrete}
use Rattle.base.specs.Tests.{le_both}
use Rattle.refusals.specs.declared.Request.{Request}
use Rattle.frame.specs.Pictures.{Pair, pair_of}
use Rattle.frame.specs.Candidates.{Candidate}
use Rattle.refusals.specs.Refusals.{unless, first_refusal, place_ok, request_refusal, setting_of}
use Rattle.refusals.specs.Refusals.{unless_zero, first_refusal_zero, first_refusal_none, Placed, Requested, requested}
use Rattle.search.specs.declared.SearchResult.{SearchResult}
use Rattle.search.specs.Target.{target}
use Rattle.distortion.specs.Blocks.{distortion}
use Rattle.search.specs.SearchResult.{refused_search, vector_in}
use Rattle.probe.specs.BestSoFar.{result_of}
use Rattle.four_step.specs.FourStep.{four_step}
use Rattle.cross.specs.Cross.{cross}
use Rattle.full.specs.Full.{full_search}
use Rattle.pruned.specs.Answer.{pruned_search}

unfoldable pub search_refusal : ℕ → ℕ → Request → ℕ → ℕ → ℕ
search_refusal older newer q y x = first_refusal (request_refusal older newer q) (unless (place_ok (setting_of q) y x) 7 0)

-- 1 full, 2 pruned, 3 four-step, 4 cross
unfoldable pub search_by : Pair → Request → ℕ → ℕ → SearchResult
search_by p q y x =
    cond (eqb q.search 1) (full_search p q.w y x)
    (cond (eqb q.search 2) (pruned_search p q.w y x)
    (cond (eqb q.search 3) (result_of (four_step (target p q.w y x)))
    (result_of (cross (target p q.w y x) q.t q.w))))

unfoldable pub search_block : List ℕ → List ℕ → Request → ℕ → ℕ → SearchResult
search_block older newer q y x =
    let refusal = search_refusal (length older) (length newer) q y x in
    cond (eqb refusal 0) (search_by (pair_of older newer (setting_of q)) q y x) (refused_search refusal)

pub record OwnResult (p : Pair) (w y x : ℕ) (f : SearchResult) : Type 0 where
  pub chosen : Candidate p.setting w y x (vector_in f)
  pub reported : f.distortion ≡ distortion p y x (vector_in f)

-- ---- what an accepted call may go by

-- 1 2 3 4 51 5 6 7: the request is one that its search takes, and the block lies in the newer frame
pub record Searchable (older newer : ℕ) (q : Request) (y x : ℕ) : Type 0 where
  pub requested : Requested older newer q
  pub placed : Placed older newer (setting_of q) y x

pub searchable : (older newer : ℕ) (q : Request) (y x : ℕ) → search_refusal older newer q y x ≡ 0 → Searchable older newer q y x
unfolding search_refusal
searchable older newer q y x e =
    let a = first_refusal_zero (request_refusal older newer q) _ e in
    let b = le_both (y + q.n) q.height (x + q.n) q.width (unless_zero (place_ok (setting_of q) y x) 6 0 a.1).0 in
    let r = requested older newer q a.0 in
    record { requested = r; placed = record { paired = r.paired; down = b.0; across = b.1 } }

-- a request that is not refused, at a block that lies in the newer frame
pub search_fine : (older newer : ℕ) (q : Request) (y x : ℕ) → request_refusal older newer q ≡ 0 → y + q.n ≤ q.height → x + q.n ≤ q.width
    → search_refusal older newer q y x ≡ 0
unfolding search_refusal
search_fine older newer q y x e down across = first_refusal_none (request_refusal older newer q) _ e ∙ rw (le-leb _ _ down, le-leb _ _ across)

module _ (older newer : List ℕ) (q : Request) (y x : ℕ) where
  pub block_refused : (search_refusal (length older) (length newer) q y x ≡ 0 → ⊥)
      → search_block older newer q y x ≡ refused_search (search_refusal (length older) (length newer) q y x)
  unfolding search_block
  block_refused h = rw (ne_eqb _ 0 h)

  -- a call that answers 0 was accepted
  pub block_unrefused : (search_block older newer q y x).refusal ≡ 0 → search_refusal (length older) (length newer) q y x ≡ 0
  block_unrefused e = go (ℕ_discrete (search_refusal (length older) (length newer) q y x) 0)
    where
      go : Dec (search_refusal (length older) (length newer) q y x ≡ 0) → search_refusal (length older) (length newer) q y x ≡ 0
      go (yes h) = h
      go (no h) = sym (ap (λ (f : SearchResult). f.refusal) (block_refused h)) ∙ e

  pub block_accepted : search_refusal (length older) (length newer) q y x ≡ 0 → search_block older newer q y x ≡ search_by (pair_of older newer (setting_of q)) q y x
  unfolding search_block
  block_accepted h = rw h

-- the requested search, by its number
module _ (p : Pair) (q : Request) (y x : ℕ) where
  pub searched_full : q.search ≡ 1 → search_by p q y x ≡ full_search p q.w y x
  unfolding search_by
  searched_full e = rw e

  pub searched_pruned : q.search ≡ 2 → search_by p q y x ≡ pruned_search p q.w y x
  unfolding search_by
  searched_pruned e = rw e

  pub searched_four_step : q.search ≡ 3 → search_by p q y x ≡ result_of (four_step (target p q.w y x))
  unfolding search_by
  searched_four_step e = rw e

  pub searched_cross : q.search ≡ 4 → search_by p q y x ≡ result_of (cross (target p q.w y x) q.t q.w)
  unfolding search_by
  searched_cross e = rw e
