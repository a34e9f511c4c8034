-- `lies_in`: the last place from which n pels fit is all - n.
use Prim.Native.Nat.{◌+◌, ◌-◌}
use native.Mathlib.Omega.{arith}
use borrow.Author.Tests.{lt-leb}
use lib.Dec.{leb→le, le→leb}
use Rattle.base.specs.Tests.{iff_test}
use Rattle.refusals.proofs.lies_in.Goals as goal

pub returns-then-all-n : goal.returns-then-all-n
returns-then-all-n c =
    let a = c.args in
    rw (lt-leb (a.at + a.n) a.all (omega arith))

pub returns : goal.returns
returns c =
    let a = c.args in
    iff_test _ _
    (λ t. le→leb (a.at + a.n) a.all (omega (arith, leb→le a.at (a.all - a.n) t)))
    (λ t. le→leb a.at (a.all - a.n) (omega (arith, leb→le (a.at + a.n) a.all t)))
