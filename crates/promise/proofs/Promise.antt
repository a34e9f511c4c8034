-- Demand 3: the promise holds of every list of calls. Each call agrees with the reckoning, so by induction over the list the run does; and an accepted step
-- answers with its field, whose blocks have their exhaustive bests.
use Prim.Native.Nat.{ℕ, ◌+◌}
use mathlib.Core.Path.{◌≡◌, refl, ap, ◌∙◌}
use mathlib.Core.Bool.{true}
use mathlib.Core.List.{List, ◌∷◌, ◌++◌}
use lib.Dec.{T}
use lib.IntN.{ℤ, pos}
use lib.Signed.{◌≤ℤ◌, ◌<ℤ◌}
use lib.ListN.{get_or, drop}
use Rattle.base.specs.Calls.{EachCall, last_is, each_call}
use Rattle.order.specs.declared.Vector.{Vector}
use Rattle.order.specs.Vectors.{turned}
use Rattle.base.specs.Lists.{list_to}
use Rattle.frame.specs.Pictures.{Pair, last_count}
use Rattle.frame.specs.Grid.{blocks}
use Rattle.frame.specs.Candidates.{candidate}
use Rattle.distortion.specs.Blocks.{distortion}
use Rattle.voter.specs.Voter.{voting}
use Rattle.reading.specs.Reading.{votes, majority, Most}
use Rattle.field.specs.declared.FieldAnswer.{FieldAnswer}
use Rattle.refusals.specs.Refusals.{request_of}
use Rattle.field_rules.specs.Rules.{list_size}
use Rattle.field_block.specs.Blocks.{search_at}
use Rattle.field.specs.Field.{field_answer}
use Rattle.recent.specs.Recent.{last_held, recent_ok}
use Rattle.track.specs.declared.Track.{Track}
use Rattle.track_rules.specs.Rules.{in_range}
use Rattle.track.specs.Track.{track_new, homed_at, StepResult}
use Rattle.promise.specs.Demand.{Call, best_of, travel, voters_in, reckon, reckoned, accepted_calls, standing_on, travels_since, track_at, NoHoming, Result, track_in, answer_to}
use Rattle.promise.specs.Demand.{run, last_track, AtStep, EachStep, EachBlock, EachGridPlace, best_entries, reported, how_many, is_dropped}
use Rattle.promise.specs.Demand.{is_measured, over_grid, Promise}
use Rattle.promise.specs.Demand.Call.{home}
use Rattle.promise.specs.Demand.Standing.{nowhere, from}
use Rattle.reading.proofs.Majority.{majority_most}
use Rattle.promise.proofs.Chains.{Fine}
use Rattle.promise.proofs.Blocks.{Lists, entries_third, pos_le, pos_lt, each_place, best_within, block_result, grid_distortion, grid_no_less}
use Rattle.promise.proofs.Blocks.{grid_worse, entries_best, sum_dropped, sum_measured, sum_both}
use Rattle.promise.proofs.Probing.{four_step_runs, cross_runs, four_step_block, cross_block, four_step_over, cross_over}
use Rattle.promise.proofs.One.{agrees, Taken, at_step, field_fine, answer_is, list_is, reading_is, votes_is, voters_is}
use Rattle.promise.proofs.Closed.{closed, Held, standing_held, stays_nowhere, travels_of, reckoned_since}
use Rattle.promise.proofs.Holding.{new_holds, reckoned_holds}

-- ---- an accepted step

module _ (t : Track) (p : Pair) (w threshold : ℕ) (list : List ℤ) (table : List ℕ) (s : StepResult) (k : Taken t p w threshold list table s) where
  fine : Fine p w
  fine = field_fine t p w threshold list table k.fine

  abbrev answer : FieldAnswer
  answer = s.stepped.answer

  answered : answer ≡ field_answer p (request_of p.setting 2 w threshold)
  answered = k.answer_same ∙ answer_is t p w threshold list table k.fine

  travels : (v : Vector) × Most (voting p) (best_of p w) (blocks p.setting) v × (travel p w ≡ turned v) × (answer.dy ≡ v.dy) × (answer.dx ≡ v.dx)
      × (answer.votes ≡ votes (voting p) (best_of p w) (blocks p.setting) v) × (answer.voters ≡ voters_in p)
  unfolding travel
  travels = (
    majority (voting p) (best_of p w) (blocks p.setting),
    majority_most (voting p) (best_of p w) (blocks p.setting) (λ j h votes. best_within p w fine j h),
    refl,
    ap (λ (a : FieldAnswer). a.dy) k.answer_same ∙ ap (λ (v : Vector). v.dy) (reading_is t p w threshold list table k.fine),
    ap (λ (a : FieldAnswer). a.dx) k.answer_same ∙ ap (λ (v : Vector). v.dx) (reading_is t p w threshold list table k.fine),
    ap (λ (a : FieldAnswer). a.votes) k.answer_same ∙ votes_is t p w threshold list table k.fine,
    ap (λ (a : FieldAnswer). a.voters) k.answer_same ∙ voters_is t p w threshold list table k.fine,
  )

  listed : s.list ≡ best_entries p w ++ drop (list_size p.setting) list
  listed =
      k.list_same ∙ list_is t p w threshold list table k.fine
      ∙ ap (λ (l : List ℤ). l ++ drop (list_size p.setting) list) (entries_best p w fine threshold)

  reported_found : EachBlock p (λ j. reported s.list j ≡ pos (search_at p (request_of p.setting 2 w threshold) j).distortion)
  reported_found j h =
      ap (λ (l : List ℤ). reported l j) (k.list_same ∙ list_is t p w threshold list table k.fine)
      ∙ entries_third (search_at p (request_of p.setting 2 w threshold)) (blocks p.setting) j (drop (list_size p.setting) list) h

  reported_best : Lists p w s.list
  reported_best j h = reported_found j h ∙ ap pos (grid_distortion p w fine threshold j h)

  no_less : EachGridPlace p (λ j y x. (v : Vector) → T (candidate p.setting w y x v) → reported s.list j ≤ℤ pos (distortion p y x v))
  no_less j h v c = rw (reported_found j h) (pos_le (grid_no_less p w fine threshold j h v c))

  dropped_more : EachGridPlace p (λ j y x. (v : Vector) → T (is_dropped p w y x v) → reported s.list j <ℤ pos (distortion p y x v))
  dropped_more j h v d = rw (reported_found j h) (pos_lt (grid_worse p w fine threshold j h v d))

  sums : (answer.dropped ≡ over_grid p (λ y x. how_many (is_dropped p w y x)))
      × (get_or answer.counts last_count 0 ≡ over_grid p (λ y x. how_many (is_measured p w y x)))
      × (answer.dropped + get_or answer.counts last_count 0 ≡ over_grid p (λ y x. how_many (candidate p.setting w y x)))
  unfolding field_answer list_to
  sums = rw answered (sum_dropped p w fine threshold, sum_measured p w fine threshold, sum_both p w fine threshold)

-- ---- the whole list

alike : (t : Track) (c : Call) → track_in (answer_to t c) ≡ reckon t c
alike t c = (agrees t c).track

each : (P : Track → Call → Result → Type 0) → ((t : Track) (c : Call) → P t c (answer_to t c)) → (calls : List Call)
    → EachCall reckon P track_new calls (run calls)
each P h calls = each_call answer_to track_in reckon alike P h calls track_new

steps : (calls : List Call) (Q : Pair → ℕ → List ℤ → StepResult → Type 0)
    → ((t : Track) (p : Pair) (w threshold : ℕ) (list : List ℤ) (table : List ℕ) (s : StepResult) → Taken t p w threshold list table s → Q p w list s)
    → EachStep calls Q
steps calls Q h = each (AtStep Q) (at_step Q h) calls

-- the track in the end is the reckoning's
ends : (calls : List Call) → last_track (run calls) ≡ reckoned track_new calls
ends calls = last_is answer_to track_in reckon alike calls track_new

stands : (calls : List Call) → last_track (run calls) ≡ track_at (standing_on nowhere (accepted_calls track_new calls))
unfolding track_at
stands calls = ends calls ∙ closed calls nowhere

held : (calls : List Call) → Held (last_track (run calls)).recent (last_held (travels_since (standing_on nowhere (accepted_calls track_new calls))))
held calls = rw (stands calls) (standing_held (standing_on nowhere (accepted_calls track_new calls)))

whole : (calls : List Call) → T (recent_ok (last_track (run calls)).recent)
whole calls = rw (ends calls) (reckoned_holds calls track_new new_holds).ok

unhomed : (calls : List Call) → NoHoming (accepted_calls track_new calls) → last_track (run calls) ≡ track_new
unfolding track_at
unhomed calls h = stands calls ∙ ap track_at (stays_nowhere (accepted_calls track_new calls) h)

pub promise : (calls : List Call) → Promise calls
promise calls = record {
  stands = stands calls;
  held = held calls;
  whole = whole calls;
  unhomed = unhomed calls;
  reckoning = ends calls;
  refusals = each _ (λ t c. (agrees t c).refusal) calls;
  tracks = each _ alike calls;
  travels = steps calls _ travels;
  bests = steps calls _ (λ t p w threshold list table s k. each_place p w (fine t p w threshold list table s k));
  listed = steps calls _ listed;
  no_less = steps calls _ no_less;
  dropped_more = steps calls _ dropped_more;
  block_results = steps calls _ (λ t p w threshold list table s k. block_result p w (fine t p w threshold list table s k));
  sums = steps calls _ sums;
  four_step_runs = steps calls _ (λ t p w threshold list table s k. four_step_runs p w (fine t p w threshold list table s k));
  cross_runs = steps calls _ (λ t p w threshold list table s k. cross_runs p w (fine t p w threshold list table s k));
  four-step = steps calls _ (λ t p w threshold list table s k. four_step_block p w (fine t p w threshold list table s k));
  four_step_field = steps calls _ (λ t p w threshold list table s k.
      four_step_over p w (fine t p w threshold list table s k) s.list (reported_best t p w threshold list table s k));
  cross = steps calls _ (λ t p w threshold list table s k. cross_block p w (fine t p w threshold list table s k));
  cross_field = steps calls _ (λ t p w threshold list table s k.
      cross_over p w (fine t p w threshold list table s k) s.list (reported_best t p w threshold list table s k));
}

-- In the customer's words: after the last accepted homing, at (y0, x0), the track stands at that place plus the travels of all pairs accepted since, with their
-- number as its steps
pub since : (before after : List Call) (y0 x0 : ℤ) → in_range y0 ≡ true → in_range x0 ≡ true → NoHoming (accepted_calls (homed_at y0 x0) after)
    → let ts = travels_of (accepted_calls (homed_at y0 x0) after) in
    last_track (run (before ++ (home y0 x0 ∷ after))) ≡ track_at (from y0 x0 ts)
since before after y0 x0 a b h = ends (before ++ (home y0 x0 ∷ after)) ∙ reckoned_since track_new before after y0 x0 a b h
