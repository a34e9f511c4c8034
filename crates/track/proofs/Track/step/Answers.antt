-- `step`: a refusal, or the field and then the new place.
use Prim.Native.Nat.{ℕ}
use mathlib.Core.Path.{◌≡◌, sym, ap, subst, ◌∙◌}
use mathlib.Core.List.{List}
use lib.Dec.{T}
use lib.IntN.{ℤ}
use Rattle.refusals.specs.declared.Request.{Request}
use Rattle.refusals.specs.Numbers.{number_some}
use Rattle.refusals.specs.Refusals.{unless_zero, first_refusal_zero}
use Rattle.field.specs.declared.FieldAnswer.{FieldAnswer}
use Rattle.field_rules.specs.Rules.{field_refusal}
use Rattle.field.specs.Field.{field_result, field}
use Rattle.field.proofs.Reading.{Reads, reading_within}
use Rattle.track_rules.specs.Rules.{may_step}
use Rattle.track.specs.declared.Track.{Track}
use Rattle.track.specs.declared.Stepped.{Stepped}
use Rattle.track.specs.Track.{step_refusal, step_refusal_is, unmoved, step_result, arrived, landed, track_step, step_refused, step_landed}
use Rattle.track.proofs.Track.step.Goals as goal
use Rattle.track.proofs.Track.step.Goals.{In_default}

-- no 32
may-step : (t : Track) (older newer : ℕ) (q : Request) (list table : ℕ) → step_refusal t older newer q list table ≡ 0 → T (may_step t.steps t.recent)
unfolding step_refusal
may-step t older newer q list table e =
    let a = first_refusal_zero (field_refusal older newer q list table) _ e in
    let b = unless_zero t.homed 30 _ a.1 in
    (unless_zero (may_step t.steps t.recent) 31 0 b.1).0

module _ (t : Track) (older newer : List ℕ) (q : Request) (list : List ℤ) (table : List ℕ) where
  -- a refusal
  stops : (n : ℕ) (s : Stepped) → n ≡ step_refusal_is t older newer q list table → (n ≡ 0 → ⊥) → s ≡ unmoved n t
      → step_result s list table ≡ track_step t older newer q list table
  stops n s e h r =
      ap (λ (u : Stepped). step_result u list table) (r ∙ ap (λ (k : ℕ). unmoved k t) e) ∙ sym (step_refused t older newer q list table (λ z. h (e ∙ z)))

  -- the field's answer with what list and table then hold, and the new place
  arrives : (a : FieldAnswer) (filled : List ℤ) (sums : List ℕ) (s : Stepped)
      → step_refusal_is t older newer q list table ≡ 0 → field_result a filled sums ≡ field older newer q list table → s ≡ arrived t a
      → step_result s filled sums ≡ track_step t older newer q list table
  arrives a filled sums s z f e =
      ap (λ (u : Stepped). step_result u filled sums) e ∙ ap (landed t) f ∙ sym (step_landed t older newer q list table z)

-- past the chain
zero_is : (e : In_default) →
    let a = e.args in
    step_refusal_is a.self a.older.now a.newer.now a.q a.list.now a.table.now ≡ 0
zero_is e = sym e.in_default.ensures

pub returns-in-Err : goal.returns-in-Err
returns-in-Err c = stops _ _ _ _ _ _ _ _ c.in-Err.ensures (number_some c.in-Err.refusal) c.unmoved.ensures

pub arrive-requires : goal.arrive-requires
arrive-requires c =
    let z = zero_is (goal.at.arrive-requires c).In_default in
    (may-step _ _ _ _ _ _ z, subst Reads (sym c.field-answer.ensures) (reading_within _ _ _ _ _))

pub returns : goal.returns
returns c =
    arrives _ _ _ _ _ _ _ _ _ _ (zero_is (goal.at.returns c).In_default) c.field-answer.ensures c.arrive.ensures
