-- `measure`: the tests are the chain's; where they pass, the older block is the one that the vector names, and it lies inside.
use mathlib.Core.Path.{◌≡◌, ap, sym, ◌∙◌}
use mathlib.Core.Bool.{true}
use lib.Dec.{T}
use lib.ListN.{length}
use mir.Facts.{to_z-of_z}
use Rattle.order.specs.Vectors.{vec}
use Rattle.base.specs.Tests.{T_true, told}
use Rattle.measures.specs.Measures.{measure_ok}
use Rattle.frame.specs.Pictures.{pair_of}
use Rattle.frame.specs.Candidates.{candidate, older_at, older_row, older_column, candidate_older, older_is, older_no}
use Rattle.refusals.specs.Numbers.{number_some}
use Rattle.refusals.specs.Refusals.{place_ok, pair_refusal, placed}
use Rattle.measuring.specs.Measured.{measure_at, refused_by, measured_refused, measured_unmeasured, measured_elsewhere, measured_outside, measured_at}
use Rattle.measuring.proofs.measure.Goals as goal
use Rattle.measuring.proofs.measure.Goals.{After-older_at, Else-not-measure_ok, Else-not-place_ok, In_default, In-Some}

-- 1 2 3 do not apply,
pair-zero : (e : In_default) →
    pair_refusal (length e.args.older.now) (length e.args.newer.now) e.args.s ≡ 0
pair-zero e = sym e.in_default.ensures

-- nor does 51,
measure-passed : (e : Else-not-measure_ok) →
    measure_ok e.args.s.measure ≡ true
measure-passed e = told e.measure_ok.ensures e.if-not-measure_ok.false

-- nor does 7
place-passed : (e : Else-not-place_ok) → place_ok e.args.s e.args.y e.args.x ≡ true
place-passed e = told e.place_ok.ensures e.if-not-place_ok.false

-- what the call for the older block answers
found : (o : After-older_at) →
    o.older_at.result ≡ older_at o.args.s 16 o.args.y o.args.x (vec o.args.dy o.args.dx)
found o =
    rw (to_z-of_z o.ranges.dy, to_z-of_z o.ranges.dx) at o.older_at.ensures

at-candidate : (k : In-Some) →
    T (candidate k.args.s 16 k.args.y k.args.x (vec k.args.dy k.args.dx))
    × (k.in-Some.r ≡ older_row k.args.y (vec k.args.dy k.args.dx))
    × (k.in-Some.c ≡ older_column k.args.x (vec k.args.dy k.args.dx))
at-candidate k = older_is _ 16 _ _ _ _ _ (sym (let found : k.older_at.result ≡ older_at k.args.s 16 k.args.y k.args.x (vec k.args.dy k.args.dx) = rw (to_z-of_z k.ranges.dy, to_z-of_z k.ranges.dx) at k.older_at.ensures in found) ∙ k.in-Some.is)

pub returns-in-Err : goal.returns-in-Err
returns-in-Err c =
    let r = c.in-Err.ensures in
    c.refused.ensures ∙ ap refused_by r ∙ sym (measured_refused (pair_of c.args.older.now c.args.newer.now c.args.s) _ _ (vec c.args.dy c.args.dx) _ (λ e. number_some c.in-Err.refusal (r ∙ e)))

pub returns-then-not-measure_ok : goal.returns-then-not-measure_ok
returns-then-not-measure_ok c =
    c.refused-then-not-measure_ok.ensures
    ∙ sym (measured_unmeasured (pair_of c.args.older.now c.args.newer.now c.args.s) _ _ (vec c.args.dy c.args.dx) _ (pair-zero (goal.at.returns-then-not-measure_ok c).In_default) (told c.measure_ok.ensures c.if-not-measure_ok.true))

pub returns-then-not-place_ok : goal.returns-then-not-place_ok
returns-then-not-place_ok c =
    c.refused-then-not-place_ok.ensures
    ∙ sym (measured_elsewhere (pair_of c.args.older.now c.args.newer.now c.args.s) _ _ (vec c.args.dy c.args.dx) _ (pair-zero (goal.at.returns-then-not-place_ok c).In_default) (measure-passed (goal.at.returns-then-not-place_ok c).Else-not-measure_ok)
    (told c.place_ok.ensures c.if-not-place_ok.true))

pub returns-in_default-older_at : goal.returns-in_default-older_at
returns-in_default-older_at c =
    c.refused-in_default-older_at.ensures
    ∙ sym (measured_outside (pair_of c.args.older.now c.args.newer.now c.args.s) _ _ (vec c.args.dy c.args.dx) _ (pair-zero (goal.at.returns-in_default-older_at c).In_default) (measure-passed (goal.at.returns-in_default-older_at c).Else-not-measure_ok) (place-passed (goal.at.returns-in_default-older_at c).Else-not-place_ok)
    (older_no _ 16 _ _ _ (sym (found (goal.at.returns-in_default-older_at c).After-older_at) ∙ c.in_default-older_at.is)))

pub measure_block-requires : goal.measure_block-requires
measure_block-requires c =
    let h = at-candidate c in
    let i = candidate_older c.args.s 16 c.args.y c.args.x (vec c.args.dy c.args.dx) h.0 in
    record {
      placed = placed _ _ _ _ _ (pair-zero (goal.at.measure_block-requires c).In_default) (place-passed (goal.at.measure_block-requires c).Else-not-place_ok);
      down = rw h.1 i.down;
      across = rw h.2 i.across;
    }

pub returns : goal.returns
unfolding measure_at
returns c =
    let h = at-candidate (goal.at.returns c).In-Some in
    rw (c.answer_of.ensures, c.measure_block.ensures, h.1, h.2)
    (sym (measured_at (pair_of c.args.older.now c.args.newer.now c.args.s) c.args.y c.args.x (vec c.args.dy c.args.dx) c.args.ceiling (pair-zero (goal.at.returns c).In_default) (measure-passed (goal.at.returns c).Else-not-measure_ok)
    (place-passed (goal.at.returns c).Else-not-place_ok) (T_true _ h.0)))
