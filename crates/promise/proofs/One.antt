-- One call, whatever the track: it is refused by the number by which the reckoning refuses it and hands the reckoning's track back, because the reading of an
-- accepted field by search 2 is the voters' majority of exhaustive bests.
use Prim.Native.Nat.{ℕ}
use mathlib.Core.Path.{◌≡◌, refl, sym, ap, ◌∙◌}
use mathlib.Core.Bool.{cond}
use mathlib.Core.List.{List}
use native.Mathlib.Decide.{ℕ_discrete}
use borrow.Author.Tests.{ne_eqb}
use lib.Dec.{eqb}
use lib.IntN.{ℤ}
use lib.ListN.{length}
use Rattle.base.specs.Calls.{reckon_call}
use Rattle.order.specs.declared.Vector.{Vector}
use Rattle.order.specs.Vectors.{vec, turned, Within, turned_within}
use Rattle.frame.specs.Pictures.{Pair}
use Rattle.frame.specs.Grid.{blocks}
use Rattle.refusals.specs.declared.Request.{Request}
use Rattle.refusals.specs.Refusals.{first_refusal_zero, request_of}
use Rattle.voter.specs.Voter.{voting}
use Rattle.reading.specs.Reading.{votes, majority}
use Rattle.reading.proofs.Majority.{majority_within}
use Rattle.field.specs.declared.FieldAnswer.{FieldAnswer}
use Rattle.field.specs.Field.{field_answer, FieldResult, filled_list, field_accepted}
use Rattle.track.specs.declared.Track.{Track}
use Rattle.track_rules.specs.Rules.{may_step, arrival_refusal}
use Rattle.track.specs.Track.{moved_to, track_home, step_refusal, unmoved, travel_of, arrived, StepResult, step_result, landed, track_step, step_refused, step_landed}
use Rattle.promise.specs.Demand.{Call, best_of, travel, voters_in, refusal_of, accept, reckon, Result, track_in, refusal_in, answer_to, AtStep, field_on}
use Rattle.promise.specs.Demand.Call.{home, step}
use Rattle.promise.specs.Demand.Result.{stepping}
use Rattle.promise.proofs.Chains.{chain_late, chain_early, field_chain, Fine, request_fine, field_request}
use Rattle.promise.proofs.Blocks.{reading_best, votes_best}

pub record Agrees (t : Track) (c : Call) (r : Result) : Type 0 where
  pub refusal : refusal_in r ≡ refusal_of t c
  pub track : track_in r ≡ reckon t c

-- ---- Home

home_agrees : (t : Track) (y x : ℤ) → Agrees t (home y x) (answer_to t (home y x))
unfolding answer_to track_home refusal_of reckon_call accept
home_agrees t y x = record { refusal = refl; track = refl }

-- ---- the new place of a step

record Landing (t : Track) (f : FieldResult) (s : StepResult) (new : Track) (late : ℕ) : Type 0 where
  refusal : f.answer.refusal ≡ 0 → s.stepped.answer.refusal ≡ late
  track : s.stepped.track ≡ cond (eqb late 0) new t
  list : s.list ≡ f.list
  whole : late ≡ 0 → s.stepped.answer ≡ f.answer

-- a step whose field is filled, by the refusal that comes after
abbrev lands_by : Track → FieldResult → Track → ℕ → StepResult
lands_by t f new late = step_result (cond (eqb late 0) (record { track = new; answer = f.answer }) (unmoved late t)) f.list f.table

landing_at : (t : Track) (f : FieldResult) (new : Track) (late : ℕ) → Landing t f (lands_by t f new late) new late
landing_at t f new late = go (ℕ_discrete late 0)
  where
    go : Dec (late ≡ 0) → Landing t f (lands_by t f new late) new late
    go (yes z) = rw z (record { refusal = λ e. e; track = refl; list = refl; whole = λ e. refl })
    go (no n) = rw (ne_eqb late 0 n) (record { refusal = λ e. refl; track = rw (ne_eqb late 0 n); list = refl; whole = λ z. absurd (n z) })

landing : (t : Track) (f : FieldResult) (v : Vector) (n : ℕ) → travel_of f.answer ≡ v → f.answer.voters ≡ n
    → let new = moved_to t v in Landing t f (landed t f) new (arrival_refusal n new.y new.x)
unfolding arrived
landing t f v n e s = let new = moved_to t (travel_of f.answer) in rw (← e, ← s) (landing_at t f new (arrival_refusal f.answer.voters new.y new.x))

-- ---- Step

module _ (t : Track) (p : Pair) (w threshold : ℕ) (list : List ℤ) (table : List ℕ) where
  abbrev request : Request
  request = request_of p.setting 2 w threshold

  abbrev this : Call
  this = step p w threshold list table

  abbrev field : FieldResult
  field = field_on p 2 w threshold list table

  abbrev answers : StepResult
  answers = track_step t p.older p.newer request list table

  -- the refusals before the field is filled, and the one after
  abbrev early : ℕ
  early = step_refusal t (length p.older) (length p.newer) request (length list) (length table)

  abbrev late : ℕ
  late = let new = moved_to t (travel p w) in arrival_refusal (voters_in p) new.y new.x

  abbrev field_early : ℕ
  field_early = field_chain p 2 w threshold (length list) (length table)

  refusal_late : early ≡ 0 → refusal_of t this ≡ late
  unfolding refusal_of step_refusal
  refusal_late e = chain_late field_early t.homed (may_step t.steps t.recent) late e

  refusal_early : (early ≡ 0 → ⊥) → refusal_of t this ≡ early
  unfolding refusal_of step_refusal
  refusal_early n = chain_early field_early t.homed (may_step t.steps t.recent) late n

  early_field : early ≡ 0 → field_early ≡ 0
  unfolding step_refusal
  early_field e = (first_refusal_zero field_early _ e).0

  -- what an accepted field answers
  module _ (e : field_early ≡ 0) where
    pub field_fine : Fine p w
    field_fine = request_fine p 2 w threshold (field_request p 2 w threshold (length list) (length table) e)

    pub answer_is : field.answer ≡ field_answer p request
    answer_is = ap (λ (f : FieldResult). f.answer) (field_accepted p.older p.newer request list table e)

    pub list_is : field.list ≡ filled_list p request list
    list_is = ap (λ (f : FieldResult). f.list) (field_accepted p.older p.newer request list table e)

    unrefused : field.answer.refusal ≡ 0
    unfolding field_answer
    unrefused = ap (λ (a : FieldAnswer). a.refusal) answer_is

    pub votes_is : field.answer.votes ≡ votes (voting p) (best_of p w) (blocks p.setting) (majority (voting p) (best_of p w) (blocks p.setting))
    unfolding field_answer
    votes_is =
        ap (λ (a : FieldAnswer). a.votes) answer_is
        ∙ votes_best p w field_fine threshold _
        ∙ ap (votes (voting p) (best_of p w) (blocks p.setting)) (reading_best p w field_fine threshold)

    pub reading_is : vec field.answer.dy field.answer.dx ≡ majority (voting p) (best_of p w) (blocks p.setting)
    unfolding field_answer
    reading_is = ap (λ (a : FieldAnswer). vec a.dy a.dx) answer_is ∙ reading_best p w field_fine threshold

    pub voters_is : field.answer.voters ≡ voters_in p
    unfolding field_answer
    voters_is = ap (λ (a : FieldAnswer). a.voters) answer_is

    lands : Landing t field (landed t field) (accept t this) late
    unfolding accept travel
    lands = landing t field (travel p w) (voters_in p) (ap turned reading_is) voters_is

  step_agrees : Agrees t this (answer_to t this)
  unfolding answer_to reckon_call
  step_agrees = go (ℕ_discrete early 0)
    where
      go : Dec (early ≡ 0) → Agrees t this (stepping answers)
      go (yes e) =
          let l = lands (early_field e) in
          rw (step_landed t p.older p.newer request list table e)
          (record { refusal = l.refusal (unrefused (early_field e)) ∙ sym (refusal_late e); track = rw (refusal_late e) l.track })
      go (no n) =
          rw (step_refused t p.older p.newer request list table n)
          (record { refusal = sym (refusal_early n); track = rw (refusal_early n, ne_eqb early 0 n) refl })

  -- an accepted step answers with all that its field answers
  pub record Taken (s : StepResult) : Type 0 where
    pub fine : field_early ≡ 0
    pub list_same : s.list ≡ field.list
    pub answer_same : s.stepped.answer ≡ field.answer

  step_taken : refusal_of t this ≡ 0 → Taken answers
  step_taken a = go (ℕ_discrete early 0)
    where
      go : Dec (early ≡ 0) → Taken answers
      go (yes e) =
          let l = lands (early_field e) in
          rw (step_landed t p.older p.newer request list table e)
          (record { fine = early_field e; list_same = l.list; answer_same = l.whole (sym (refusal_late e) ∙ a) })
      go (no n) = absurd (n (sym (refusal_early n) ∙ a))

-- a travel lies in window 16
pub travel_within : (p : Pair) (w : ℕ) → Within 16 (travel p w)
unfolding travel
travel_within p w = turned_within (majority_within (voting p) (best_of p w) (blocks p.setting))

pub agrees : (t : Track) (c : Call) → Agrees t c (answer_to t c)
agrees t (home y x) = home_agrees t y x
agrees t (step p w threshold list table) = step_agrees t p w threshold list table

-- a fact about every accepted step, from one about what such a step answers
pub at_step : (Q : Pair → ℕ → List ℤ → StepResult → Type 0)
    → ((t : Track) (p : Pair) (w threshold : ℕ) (list : List ℤ) (table : List ℕ) (s : StepResult) → Taken t p w threshold list table s → Q p w list s)
    → (t : Track) (c : Call) → AtStep Q t c (answer_to t c)
unfolding answer_to
at_step Q h t (home y x) = tt
at_step Q h t (step p w threshold list table) =
    λ e. h t p w threshold list table (answers t p w threshold list table) (step_taken t p w threshold list table e)
