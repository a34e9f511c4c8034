-- What the definitions answer, in a form that is quick to compute: a block's candidates are listed once instead of wherever they are named, and
-- where no block votes or all voters have one vector, the reading is known. Each form is one of the definitions with a part of it exchanged for an equal one.
--   block_once    a single-block search
--   field_once    a field
--   travel_once   a travel
--   run_once      calls on a track
use Prim.Native.Nat.{ℕ}
use mathlib.Core.Path.{◌≡◌, refl, ap, ap₂, fun_ext, ◌∙◌}
use mathlib.Core.Bool.{cond}
use mathlib.Core.List.{List, ◌++◌}
use lib.Dec.{eqb}
use lib.IntN.{ℤ}
use lib.ListN.{length, drop}
use Rattle.base.specs.Least.{least_of}
use Rattle.base.specs.Calls.{run_from}
use Rattle.order.specs.declared.Vector.{Vector}
use Rattle.order.specs.Vectors.{turned}
use Rattle.order.specs.Preference.{preference, preferred}
use Rattle.refusals.specs.declared.Request.{Request}
use Rattle.frame.specs.Pictures.{Pair, pair_of}
use Rattle.frame.specs.Grid.{blocks, block_row, block_column}
use Rattle.frame.specs.Candidates.{candidate}
use Rattle.refusals.specs.Refusals.{setting_of, request_of}
use Rattle.distortion.specs.Blocks.{measure_in}
use Rattle.search.specs.declared.SearchResult.{SearchResult}
use Rattle.search.specs.Target.{target}
use Rattle.search.specs.SearchResult.{search_result, only_at_one, vector_in, refused_search}
use Rattle.search.specs.Exhaustive.{best}
use Rattle.probe.specs.BestSoFar.{result_of}
use Rattle.four_step.specs.FourStep.{four_step}
use Rattle.cross.specs.Cross.{cross}
use Rattle.pruned_rule.specs.Prune.{Pruning, prune, pruned_best, counts, resolutions}
use Rattle.full.specs.Full.{full_search}
use Rattle.pruned.specs.Answer.{still_distortion, place_distortion, place_distance, pruning, pruned_place, pruned_search}
use Rattle.block.specs.Block.{search_refusal, search_by, search_block}
use Rattle.half_search.specs.declared.HalfResult.{HalfResult}
use Rattle.half_search.specs.Half.{centre, half_result, refined, search_half}
use Rattle.voter.specs.Voter.{voting}
use Rattle.reading.specs.Reading.{voters, votes, majority}
use Rattle.field_rules.specs.Rules.{field_refusal, list_size}
use Rattle.field_block.specs.Blocks.{search_at}
use Rattle.field.specs.Field.{entries_of, counts_over, dropped_over, filled_table, field_answer, refused_field, FieldResult, field_result, field}
use Rattle.track.specs.declared.Track.{Track}
use Rattle.track.specs.Track.{track_new, track_home, step_refusal_is, unmoved, step_result, landed, StepResult, track_step}
use Rattle.promise.specs.Demand.{Call, travel, Result, track_in, answer_to, run}
use Rattle.promise.specs.Demand.Call.{home, step}
use Rattle.promise.specs.Demand.Result.{homing, stepping}
use Rattle.worked.specs.Table.{reads}
use Rattle.worked.proofs.Places.{walk_places, after, by_walk}
use Rattle.worked.proofs.Alike.{majority_once, majority-once}

-- ---- a block

module _ (p : Pair) (w y x : ℕ) where
  abbrev D : ℕ → ℕ
  D = place_distortion p y x

  abbrev pruning_of : List ℕ → Pruning
  pruning_of = prune (still_distortion p y x) D (place_distance p y x) (measure_in p).limit p.setting.n (resolutions p.setting.n)

  abbrev chosen_of : List ℕ → ℕ
  chosen_of = pruned_best (still_distortion p y x) D (place_distance p y x) (measure_in p).limit p.setting.n (resolutions p.setting.n)

  abbrev once : {A : Type 0} → (List ℕ → A) → A
  once = after (walk_places (candidate p.setting w y x) 0 preference)

  abbrev best_once : Vector
  best_once = once (λ ks. preferred (least_of D ks))

  abbrev full_once : SearchResult
  full_once = once (λ ks. search_result (preferred (least_of D ks)) (D (least_of D ks)) (only_at_one (length ks)) 0)

  abbrev pruned_once : SearchResult
  pruned_once = once (λ ks. search_result (preferred (chosen_of ks)) (D (chosen_of ks)) (counts (pruning_of ks)) (length (pruning_of ks).dropped))

  best-once : best p w y x ≡ best_once
  unfolding best
  best-once = by_walk p.setting w y x _

  full-once : full_search p w y x ≡ full_once
  unfolding full_search best
  full-once = by_walk p.setting w y x _

  pruned-once : pruned_search p w y x ≡ pruned_once
  unfolding pruned_search pruning pruned_place
  pruned-once = by_walk p.setting w y x _

module _ (p : Pair) (q : Request) (y x : ℕ) where
  -- the requested search, by the answers f and g of searches 1 and 2
  abbrev searched_by : SearchResult → SearchResult → SearchResult
  searched_by f g =
      cond (eqb q.search 1) f
      (cond (eqb q.search 2) g
      (cond (eqb q.search 3) (result_of (four_step (target p q.w y x)))
      (result_of (cross (target p q.w y x) q.t q.w))))

  abbrev searched_once : SearchResult
  searched_once = searched_by (full_once p q.w y x) (pruned_once p q.w y x)

  searched-once : search_by p q y x ≡ searched_once
  unfolding search_by
  searched-once = ap₂ searched_by (full-once p q.w y x) (pruned-once p q.w y x)

module _ (older newer : List ℕ) (q : Request) (y x : ℕ) where
  abbrev block_by : SearchResult → SearchResult
  block_by f = let refusal = search_refusal (length older) (length newer) q y x in cond (eqb refusal 0) f (refused_search refusal)

  abbrev pub block_once : SearchResult
  block_once = block_by (searched_once (pair_of older newer (setting_of q)) q y x)

  pub block-once : search_block older newer q y x ≡ block_once
  unfolding search_block
  block-once = ap block_by (searched-once (pair_of older newer (setting_of q)) q y x)

  -- to half a pel
  abbrev half_by : SearchResult → HalfResult
  half_by f = cond (eqb f.refusal 0) (refined (pair_of older newer (setting_of q)) y x f) (half_result f centre 0)

  abbrev pub half_once : HalfResult
  half_once = half_by block_once

  pub half-once : search_half older newer q y x ≡ half_once
  unfolding search_half
  half-once = ap half_by block-once

-- ---- a field

module _ (older newer : List ℕ) (q : Request) (list : List ℤ) (table : List ℕ) where
  abbrev pair : Pair
  pair = pair_of older newer (setting_of q)

  abbrev n : ℕ
  n = blocks pair.setting

  -- the call, by its blocks' answers and the reading's vector
  abbrev field_by : (ℕ → SearchResult) → Vector → FieldResult
  field_by found v =
      let refusal = field_refusal (length older) (length newer) q (length list) (length table) in
      cond (eqb refusal 0)
      (field_result (reads v (votes (voting pair) (λ k. vector_in (found k)) n v) (voters (voting pair) n) (counts_over found n) (dropped_over found n))
      (entries_of found n ++ drop (list_size pair.setting) list) (filled_table older q table))
      (field_result (refused_field refusal) list table)

  abbrev found_once : ℕ → SearchResult
  found_once k = searched_once pair q (block_row pair.setting k) (block_column pair.setting k)

  abbrev pub field_once : FieldResult
  field_once = field_by found_once (majority_once (voting pair) (λ k. vector_in (found_once k)) n)

  pub field-once : field older newer q list table ≡ field_once
  unfolding field field_answer search_at
  field-once =
      ap (λ (found : ℕ → SearchResult). field_by found (majority (voting pair) (λ k. vector_in (found k)) n)) (fun_ext (λ k. searched-once pair q _ _))
      ∙ ap (field_by found_once) (majority-once (voting pair) (λ k. vector_in (found_once k)) n)

-- ---- a travel

module _ (p : Pair) (w : ℕ) where
  abbrev bests_once : ℕ → Vector
  bests_once k = best_once p w (block_row p.setting k) (block_column p.setting k)

  abbrev pub travel_once : Vector
  travel_once = turned (majority_once (voting p) bests_once (blocks p.setting))

  pub travel-once : travel p w ≡ travel_once
  unfolding travel
  travel-once =
      ap (λ (has : ℕ → Vector). turned (majority (voting p) has (blocks p.setting))) (fun_ext (λ k. best-once p w _ _))
      ∙ ap turned (majority-once (voting p) bests_once (blocks p.setting))

-- ---- calls on a track

module _ (t : Track) (older newer : List ℕ) (q : Request) (list : List ℤ) (table : List ℕ) where
  abbrev step_by : FieldResult → StepResult
  step_by f =
      let refusal = step_refusal_is t older newer q list table in
      cond (eqb refusal 0) (landed t f) (step_result (unmoved refusal t) list table)

  abbrev step_once : StepResult
  step_once = step_by (field_once older newer q list table)

  step-once : track_step t older newer q list table ≡ step_once
  unfolding track_step
  step-once = ap step_by (field-once older newer q list table)

abbrev call_once : Track → Call → Result
call_once t (home y x) = homing (track_home t y x)
call_once t (step p w threshold list table) = stepping (step_once t p.older p.newer (request_of p.setting 2 w threshold) list table)

call-once : (t : Track) (c : Call) → answer_to t c ≡ call_once t c
unfolding answer_to
call-once t (home y x) = refl
call-once t (step p w threshold list table) = ap stepping (step-once t p.older p.newer (request_of p.setting 2 w threshold) list table)

abbrev pub run_once : List Call → List Result
run_once cs = run_from call_once track_in track_new cs

pub run-once : (cs : List Call) → run cs ≡ run_once cs
run-once cs = ap (λ (answer : Track → Call → Result). run_from answer track_in track_new cs) (fun_ext (λ t. fun_ext (call-once t)))
