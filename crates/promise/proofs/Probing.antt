-- Four-step and cross on a pair that an accepted step has: their chains of refusals are 0 too, and they end at candidates of a window that is no wider.
use Prim.Native.Nat.{ℕ, ◌+◌, ◌*◌, ◌≤◌, ◌<◌}
use mathlib.Core.Path.{◌≡◌, refl, ap}
use mathlib.Core.Bool.{false}
use mathlib.Core.List.{List}
use lib.Dec.{T, eqb, le→leb}
use lib.IntN.{ℤ}
use lib.ListN.{length, drop}
use Rattle.base.specs.Tests.{T_true}
use Rattle.base.specs.Sum.{sum_to_bound}
use Rattle.base.specs.Lists.{list_to}
use Rattle.frame.specs.Pictures.{Pair, largest_distortion}
use Rattle.frame.specs.Grid.{blocks, block_row, block_column, block_down, block_across}
use Rattle.refusals.specs.declared.Request.{Request}
use Rattle.refusals.specs.Cross.{cross_window, log2}
use Rattle.refusals.specs.Refusals.{window_ok, threshold_ok, request_of}
use Rattle.refusals.specs.Refusals as refusals
use Rattle.search.specs.declared.SearchResult.{SearchResult}
use Rattle.search.specs.Exhaustive.{best}
use Rattle.search.specs.Target.{target}
use Rattle.probe.specs.BestSoFar.{result_of}
use Rattle.four_step.proofs.FourStep.{four_step_never_lower, four_step_count}
use Rattle.cross.proofs.Cross.{cross_never_lower, cross_count}
use Rattle.block.specs.Block.{search_by, searchable, search_fine, block_unrefused, block_accepted, searched_four_step, searched_cross}
use Rattle.field_rules.specs.Rules.{list_size}
use Rattle.field_block.specs.Blocks.{search_at}
use Rattle.field.specs.Field.{field_answer, FieldResult, field_accepted, field_unrefused}
use Rattle.promise.specs.Demand.{EachPlace, block_on, field_on, NotLower, FieldNotLower, Runs}
use Rattle.promise.proofs.Chains.{request_chain, field_chain, Fine, request_any, field_request, field_any}
use Rattle.promise.proofs.Blocks.{Lists, each_place, entries_third, pos_le}

module _ (p : Pair) (w : ℕ) (f : Fine p w) where
  -- ---- they run

  runs : (s u t : ℕ) → request_chain p s u t ≡ 0 → eqb s 2 ≡ false → ((y x : ℕ) → (search_by p (request_of p.setting s u t) y x).refusal ≡ 0) → Runs p s u t
  unfolding field_answer
  runs s u t e n zero =
      let q = request_of p.setting s u t in (
        λ y x hy hx. rw (block_accepted p.older p.newer q y x (search_fine _ _ q y x e hy hx)) (zero y x),
        λ list table h.
            ap (λ (r : FieldResult). r.answer.refusal) (field_accepted p.older p.newer q list table (field_any p s u t list table e n h)),
      )

  pub four_step_runs : Runs p 3 7 0
  unfolding window_ok threshold_ok result_of
  four_step_runs =
      runs 3 7 0 (request_any p 3 7 0 f tt tt tt) refl
      (λ y x. ap (λ (r : SearchResult). r.refusal) (searched_four_step p (request_of p.setting 3 7 0) y x refl))

  pub cross_runs : (u t : ℕ) → T (cross_window u) → t ≤ largest_distortion p.setting.measure → Runs p 4 u t
  unfolding window_ok threshold_ok result_of
  cross_runs u t c h =
      runs 4 u t (request_any p 4 u t f tt c (le→leb t (largest_distortion p.setting.measure) h)) refl
      (λ y x. ap (λ (r : SearchResult). r.refusal) (searched_cross p (request_of p.setting 4 u t) y x refl))

  -- ---- they are held against the exhaustive best: once for both, from what a search owes at a place

  module _ (s u t most : ℕ) (owes : T (window_ok s u) → EachPlace p (λ y x. NotLower p w y x (search_by p (request_of p.setting s u t) y x) most)) where
    abbrev request : Request
    request = request_of p.setting s u t

    block_held : (y x : ℕ) → (block_on p s u t y x).refusal ≡ 0 → NotLower p w y x (block_on p s u t y x) most
    block_held y x e =
        let c = block_unrefused p.older p.newer request y x e in
        let q = searchable (length p.older) (length p.newer) request y x c in
        rw (block_accepted p.older p.newer request y x c)
        (owes q.requested.window y x q.placed.down q.placed.across)

    module _ (list : List ℤ) (table : List ℕ) (e : (field_on p s u t list table).answer.refusal ≡ 0) where
      unrefused : field_chain p s u t (length list) (length table) ≡ 0
      unrefused = field_unrefused p.older p.newer request list table e

      owed : (k : ℕ) → k < blocks p.setting → NotLower p w (block_row p.setting k) (block_column p.setting k) (search_at p request k) most
      unfolding search_at
      owed k h =
          let chain = field_request p s u t (length list) (length table) unrefused in
          let q = refusals.requested (length p.older) (length p.newer) request chain in
          let fits = q.paired.fitting in
          owes q.window (block_row p.setting k) (block_column p.setting k) (block_down p.setting fits k h) (block_across p.setting fits k h)

      -- mine is the list of an accepted step by search 2
      field_held : (mine : List ℤ) → Lists p w mine → FieldNotLower p mine (field_on p s u t list table) most
      unfolding field_answer list_to
      field_held mine r =
          rw (field_accepted p.older p.newer request list table unrefused) (
            λ k h. rw (r k h, entries_third (search_at p request) (blocks p.setting) k (drop (list_size p.setting) list) h) (pos_le (owed k h).0),
            sum_to_bound most _ (blocks p.setting) (λ k h. (owed k h).1),
          )

  four_step_owes : 7 ≤ w → (t : ℕ) → EachPlace p (λ y x. NotLower p w y x (search_by p (request_of p.setting 3 7 t) y x) 27)
  unfolding result_of
  four_step_owes l t y x hy hx =
      rw (searched_four_step p (request_of p.setting 3 7 t) y x refl)
      (four_step_never_lower p y x hy hx w (best p w y x) l (each_place p w f y x hy hx), four_step_count (target p 7 y x))

  cross_owes : (u : ℕ) → u ≤ w → T (cross_window u) → (t : ℕ)
      → EachPlace p (λ y x. NotLower p w y x (search_by p (request_of p.setting 4 u t) y x) (5 + 4 * log2 u))
  unfolding result_of
  cross_owes u l c t y x hy hx =
      rw (searched_cross p (request_of p.setting 4 u t) y x refl)
      (cross_never_lower p t u y x hy hx w (best p w y x) l (each_place p w f y x hy hx), cross_count (target p u y x) t u (T_true (cross_window u) c))

  pub four_step_block : 7 ≤ w → (t y x : ℕ) → (block_on p 3 7 t y x).refusal ≡ 0 → NotLower p w y x (block_on p 3 7 t y x) 27
  four_step_block l t = block_held 3 7 t 27 (λ o. four_step_owes l t)

  pub cross_block : (u t y x : ℕ) → u ≤ w → (block_on p 4 u t y x).refusal ≡ 0 → NotLower p w y x (block_on p 4 u t y x) (5 + 4 * log2 u)
  unfolding window_ok
  cross_block u t y x l = block_held 4 u t (5 + 4 * log2 u) (λ o. cross_owes u l o t) y x

  module _ (mine : List ℤ) (r : Lists p w mine) where
    pub four_step_over : 7 ≤ w → (t : ℕ) (list : List ℤ) (table : List ℕ) → (field_on p 3 7 t list table).answer.refusal ≡ 0
        → FieldNotLower p mine (field_on p 3 7 t list table) 27
    four_step_over l t list table e = field_held 3 7 t 27 (λ o. four_step_owes l t) list table e mine r

    pub cross_over : (u t : ℕ) (list : List ℤ) (table : List ℕ) → u ≤ w → (field_on p 4 u t list table).answer.refusal ≡ 0
        → FieldNotLower p mine (field_on p 4 u t list table) (5 + 4 * log2 u)
    unfolding window_ok
    cross_over u t list table l e = field_held 4 u t (5 + 4 * log2 u) (λ o. cross_owes u l o t) list table e mine r
