-- `arrive`: without a voter 52; the two places are those of the definition, and where one leaves its range, 33.
use Prim.Native.Nat.{ℕ}
use mathlib.Core.Path.{◌≡◌, refl, sym, ap, ap₂, ◌∙◌}
use mathlib.Core.Bool.{Bool, true, false, cond}
use native.Mathlib.Omega.{arith}
use borrow.Author.Rules.{rules}
use borrow.Author.Tests.{ne_eqb}
use mir.Facts.{to_z-of_z}
use lib.Dec.{eqb}
use lib.IntN.{ℤ, neg_ℤ, ◌+ℤ◌}
use Rattle.std.specs.Prelude.{Some, None, Result, Ok, Err, ok_or, IsErrAnd}
use Rattle.signed.specs.Values.{moved_by}
use Rattle.refusals.specs.declared.Refusal.{Refusal}
use Rattle.refusals.specs.declared.Refusal.TheVariants.{OutOfRange}
use Rattle.refusals.specs.Numbers.{number_of}
use Rattle.track_rules.specs.Rules.{in_range, refused_arrival, arrival_of, arrive}
use mir.Syntax.{w32}
use Rattle.track_rules.proofs.arrive.Goals as goal
use Rattle.track_rules.proofs.arrive.Goals.{After-ok_or, After-ok_or-2, Else-voters-eq0}

-- what each answer of `minus_travel` says, with a refusal in the place of none
moved-no : (b : Bool) (z : ℤ) (e r : Refusal) → ok_or (cond b (Some z) None) e ≡ Err r → (b ≡ false) × (r ≡ e)
moved-no true z e r h = let n : ◌≡◌ {A = ℕ} 0 1 = cc in absurd (omega arith)
moved-no false z e r h = (refl, cc)

moved-yes : (b : Bool) (z u : ℤ) (e : Refusal) → ok_or (cond b (Some z) None) e ≡ Ok u → (b ≡ true) × (u ≡ z)
moved-yes true z u e h = (refl, cc)
moved-yes false z u e h = let n : ◌≡◌ {A = ℕ} 0 1 = cc in absurd (omega arith)

out : (y t : ℤ) (e r : Refusal) → ok_or (moved_by y t) e ≡ Err r → (in_range (y +ℤ t) ≡ false) × (r ≡ e)
unfolding moved_by
out y t e r h = moved-no (in_range (y +ℤ t)) (y +ℤ t) e r h

to : (y t u : ℤ) (e : Refusal) → ok_or (moved_by y t) e ≡ Ok u → (in_range (y +ℤ t) ≡ true) × (u ≡ y +ℤ t)
unfolding moved_by
to y t u e h = moved-yes (in_range (y +ℤ t)) (y +ℤ t) u e h

-- a refusal that `?` hands on
refused : (r : Result (ℤ × ℤ) Refusal) (e : Refusal) → IsErrAnd r (λ y. y ≡ e) → arrival_of r ≡ refused_arrival (number_of e)
refused (Ok place) e i = absurd i
refused (Err y) e i = ap (λ r. refused_arrival (number_of r)) i

-- some block votes
some : (e : Else-voters-eq0) → eqb e.args.voters 0 ≡ false
some e = ne_eqb _ 0 e.if-voters-eq0.false

-- a part comes back from its bits unchanged
row : (c : After-ok_or) → let a = c.args in ok_or (moved_by a.y (neg_ℤ a.dy)) OutOfRange ≡ c.ok_or.result
row c =
    ap (λ m. ok_or m OutOfRange) (sym (c.minus_travel.ensures ∙ ap₂ (λ (p q : ℤ). moved_by p (neg_ℤ q)) (to_z-of_z c.ranges.y) (to_z-of_z c.ranges.dy))) ∙ sym c.ok_or.ensures.value

column : (c : After-ok_or-2) → let a = c.args in ok_or (moved_by a.x (neg_ℤ a.dx)) OutOfRange ≡ c.ok_or-2.result
column c =
    ap (λ m. ok_or m OutOfRange) (sym (c.minus_travel-2.ensures ∙ ap₂ (λ (p q : ℤ). moved_by p (neg_ℤ q)) (to_z-of_z c.ranges.x) (to_z-of_z c.ranges.dx))) ∙ sym c.ok_or-2.ensures.value

pub returns-then-voters-eq0 : goal.returns-then-voters-eq0
unfolding arrive
returns-then-voters-eq0 c = rw c.if-voters-eq0.true

pub returns-in_err-row : goal.returns-in_err-row
unfolding arrive
returns-in_err-row c =
    let m = out _ _ _ _ (row (goal.at.returns-in_err-row c).After-ok_or ∙ c.in_err-row.was) in
    refused _ _ c.from_residual.ensures.1 ∙ rw (some (goal.at.returns-in_err-row c).Else-voters-eq0, m.0, m.1)

pub returns-in_err-column : goal.returns-in_err-column
unfolding arrive
returns-in_err-column c =
    let r = to _ _ _ _ (row (goal.at.returns-in_err-column c).After-ok_or ∙ c.in_ok-row.was) in
    let m = out _ _ _ _ (column (goal.at.returns-in_err-column c).After-ok_or-2 ∙ c.in_err-column.was) in
    refused _ _ c.from_residual-in_err-column.ensures.1 ∙ rw (some (goal.at.returns-in_err-column c).Else-voters-eq0, r.0, m.0, m.1)

pub returns : goal.returns
unfolding arrive
returns c =
    let r = to _ _ _ _ (row (goal.at.returns c).After-ok_or ∙ c.in_ok-row.was) in
    let m = to _ _ _ _ (column (goal.at.returns c).After-ok_or-2 ∙ c.in_ok-column.was) in
    rw (
      some (goal.at.returns c).Else-voters-eq0,
      r.0,
      m.0,
      to_z-of_z {w = w32} {z = c.in_ok-row.row} (search rules),
      to_z-of_z {w = w32} {z = c.in_ok-column.column} (search rules),
      r.1,
      m.1,
    )
