-- `row_in_reach`: a row out of reach adds nothing; of one in reach all columns in reach are looked at.
use Prim.Native.Nat.{◌+◌, ◌-◌}
use mathlib.Core.Path.{◌≡◌}
use native.Mathlib.Omega.{arith}
use Rattle.full.proofs.Reached.{lowered_none, lowered_row}
use Rattle.full.proofs.row_in_reach.Goals as goal

pub returns-then-i-r : goal.returns-then-i-r
returns-then-i-r c = lowered_none _ _ _ _ (λ j h. absurd (omega (arith, h.top, c.if-i-r.true)))

pub returns-then-i-r-2 : goal.returns-then-i-r-2
returns-then-i-r-2 c = lowered_none _ _ _ _ (λ j h. absurd (omega (arith, h.bottom, c.if-i-r-2.true)))

pub returns : goal.returns
returns c =
    let a = c.args in
    let e : a.r.left + a.r.columns - a.r.left ≡ a.r.columns = omega arith in
    rw (c.row_least.ensures, e) (lowered_row _ _ _ _ (omega arith) (omega arith))
