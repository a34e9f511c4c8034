-- A caller's walk by the plain call is the walk: the plain numbers of a walk's cursor stand for it, and a refusal's number is never 0.
use Prim.Native.Nat.{ℕ, zero, suc, ◌+◌, ◌<◌}
use mathlib.Core.Path.{subst}
use mathlib.Core.List.{List, []}
use mathlib.Core.Bool.{cond}
use native.Mathlib.Omega.{arith}
use borrow.Author.Tests.{ne_eqb}
use lib.Dec.{eqb}
use lib.ListN.{length}
use Rattle.log_cursor.specs.declared.Cursor.{Cursor}
use Rattle.log_cursor.specs.declared.WalkStep.{WalkStep}
use Rattle.log_command.specs.Commands.{is_refused}
use Rattle.log_cursor.specs.Step.{step_at, start_cursor}
use Rattle.log_cursor.specs.Walk.{commands_from, walk}
use Rattle.log_plain.specs.declared.Place.{Place}
use Rattle.log_plain.specs.Plain.{phase_of, cursor_of, plain_of, cursor_plain, answer_of, walk_from, answers_from, CommandsOf, none, more}
use Rattle.log_walks.specs.Cases.{Kind, refused, head, block, still, end, kinds}
use Rattle.log_walks.proofs.Ends.{enough}

-- from any place, in any number of calls
told_from : (calls : ℕ) (log : List ℕ) (p : Place) → CommandsOf (answers_from calls log p) (commands_from calls log (cursor_of p))
unfolding answers_from commands_from walk_from
told_from zero log p = none
told_from (suc calls) log p =
    more (step_at log (cursor_of p)).command (plain_of (step_at log (cursor_of p)).next)
    (go
    (λ c. subst (λ (d : Cursor). CommandsOf (answers_from calls log (plain_of c)) (commands_from calls log d)) (cursor_plain c)
    (told_from calls log (plain_of c)))
    (step_at log (cursor_of p))
    (kinds log (cursor_of p)))
  where
    go : ((c : Cursor) → CommandsOf (answers_from calls log (plain_of c)) (commands_from calls log c)) → (s : WalkStep) → Kind log (cursor_of p) s
        → let w = answer_of s.command (plain_of s.next) in
        CommandsOf (cond (eqb w.refusal 0) (answers_from calls log w.next) []) (cond (is_refused s.command) [] (commands_from calls log s.next))
    go on s (refused number place a b w) = rw (ne_eqb number 0 (λ e. omega (arith, w.least))) none
    go on s (head a t r) = on s.next
    go on s (block h k a r g t o q) = on s.next
    go on s (still h k a r g t) = on s.next
    go on s (end h k a r g t n) = on s.next

pub plain_walk : (log : List ℕ) (calls : ℕ) → length log < calls → CommandsOf (answers_from calls log (plain_of start_cursor)) (walk log)
unfolding walk phase_of
plain_walk log calls l =
    rw (enough (length log + 1) calls log start_cursor (omega arith) (omega arith) (omega arith)) (told_from calls log (plain_of start_cursor))
