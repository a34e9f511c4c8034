-- `try_at`: a neighbour that does not count, or is no less, leaves the winner.
use mathlib.Core.Path.{◌≡◌}
use mathlib.Core.Bool.{true}
use Rattle.base.specs.Tests.{told}
use Rattle.signed.specs.Values.{unbias}
use Rattle.refusals.specs.Refusals.{block_size}
use Rattle.half_pel.specs.HalfPel.{half_inside}
use Rattle.half_search.proofs.Leading.{place_inside, try_above, try_beside, try_less, try_kept}
use Rattle.half_search.proofs.try_at.Goals as goal
use Rattle.half_search.proofs.try_at.Goals.{Else-not-inside-2}

above : (c : Else-not-inside-2) → let a = c.args in half_inside (unbias 1 a.p) a.s.n a.s.height ≡ true
above c = told c.inside.ensures c.if-not-inside.false

beside : (c : Else-not-inside-2) → let a = c.args in half_inside (unbias 1 a.q) a.s.n a.s.width ≡ true
beside c = told c.inside-2.ensures c.if-not-inside-2.false

pub returns-then-not-inside : goal.returns-then-not-inside
returns-then-not-inside c = try_above _ _ _ _ _ _ _ (told c.inside.ensures c.if-not-inside.true)

pub returns-then-not-inside-2 : goal.returns-then-not-inside-2
returns-then-not-inside-2 c =
    try_beside _ _ _ _ _ _ _ (told c.inside.ensures c.if-not-inside.false) (told c.inside-2.ensures c.if-not-inside-2.true)

pub overflow_sub-p : goal.overflow_sub-p
overflow_sub-p c = (place_inside _ _ _ (above c)).0

pub overflow_sub-q : goal.overflow_sub-q
overflow_sub-q c = (place_inside _ _ _ (beside c)).0

pub half_sum-d-requires : goal.half_sum-d-requires
half_sum-d-requires c =
    let t = c.requires.0 in (
      record {
        whole = t.whole;
        fitting = t.fitting;
        small = (block_size _ t.allowed).most;
        down = (place_inside _ _ _ (above c)).1;
        across = (place_inside _ _ _ (beside c)).1;
      },
      t.allowed,
      t.stored,
    )

pub returns-then-d-best : goal.returns-then-d-best
returns-then-d-best c =
    try_less _ _ _ _ _ _ _ (above (goal.at.returns-then-d-best c).Else-not-inside-2) (beside (goal.at.returns-then-d-best c).Else-not-inside-2) _ c.half_sum-d.ensures c.if-d-best.true

pub returns : goal.returns
returns c =
    try_kept _ _ _ _ _ _ _ (above (goal.at.returns c).Else-not-inside-2) (beside (goal.at.returns c).Else-not-inside-2) _ c.half_sum-d.ensures c.if-d-best.false
