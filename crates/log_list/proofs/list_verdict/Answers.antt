-- `list_verdict`: 1 3 4 51 5 10, then the first block that 16 turns away.
use mathlib.Core.Path.{◌≡◌, ap, sym, ◌∙◌}
use Prim.Native.Nat.{ℕ, ◌≤◌}
use native.Mathlib.Omega.{arith}
use borrow.Author.Tests.{lt-ltb, le-ltb, ne_eqb}
use lib.ListN.{length}
use Rattle.std.specs.Prelude.{Result, Ok, Err, IsErrAnd}
use Rattle.refusals.specs.declared.Refusal.{Refusal}
use Rattle.refusals.specs.Numbers.{number_of, number_some}
use Rattle.log_list.specs.declared.Fault.{Fault}
use Rattle.log_list.specs.Listed.{list_verdict, verdict, verdict_of, unplaced, Writable}
use Rattle.log_head.specs.Heads.{head_blocks}
use Rattle.log_list.proofs.Sound.{writable}
use Rattle.log_list.proofs.list_verdict.Goals as goal
use Rattle.log_list.proofs.list_verdict.Goals.{In_ok-list_refusal}

-- past 1 3 4 51 5 10
past : (c : In_ok-list_refusal) → let a = c.args in Writable a.head (length a.list.now)
past c = writable _ _ (sym c.in_ok-list_refusal.ensures)

-- a refusal that `?` hands on, placed at 0
refused : {A : Type 0} (r : Result A Fault) (e : Refusal) → IsErrAnd r (λ y. y ≡ unplaced e) → verdict_of r ≡ verdict (number_of e) 0
refused (Ok x) e i = absurd i
refused (Err y) e i = ap (λ f. verdict (number_of f.refusal) f.place) i

pub returns-in_err-list_refusal : goal.returns-in_err-list_refusal
unfolding list_verdict
returns-in_err-list_refusal c =
    refused _ _ c.from_residual.ensures.1 ∙ rw (← c.in_err-list_refusal.ensures, ne_eqb _ 0 (number_some c.in_err-list_refusal.field-0.0))

pub first_wrong-requires : goal.first_wrong-requires
first_wrong-requires c = past c

pub returns-in-Some : goal.returns-in-Some
unfolding list_verdict
returns-in-Some c =
    rw (← c.in_ok-list_refusal.ensures, ← c.in-Some.ensures.0, lt-ltb _ _ c.in-Some.ensures.1)

pub returns : goal.returns
unfolding list_verdict
returns c = rw (← c.in_ok-list_refusal.ensures, ← c.in_default.ensures.0, le-ltb (head_blocks c.args.head) (head_blocks c.args.head) (omega arith))
