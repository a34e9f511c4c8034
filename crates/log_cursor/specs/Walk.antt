-- A walk: the commands that the walker's calls hand out, from a cursor on, one after the other, with the refusal that ends it last.
--   commands_from   in so many calls at most
--   walk           from the start of a log. A call that is not refused goes on by a byte at least, so length + 1 calls always do
--   log_head        the head that its first call hands out
--   last_of         the last command of a walk: how it ended
use Rattle.std.specs.Prelude.{ℕ, zero, suc, ◌+◌, ◌-◌, ◌<◌, ◌≡◌, List, [], ◌∷◌, Bool, cond, length}
use Rattle.std.proofs.Common.{arith}
use Rattle.log_head.specs.declared.Head.{Head}
use Rattle.log_cursor.specs.declared.Cursor.{Cursor}
use Rattle.log_cursor.specs.declared.WalkStep.{WalkStep}
use Rattle.log_command.specs.declared.Command.{Command}
use Rattle.log_command.specs.declared.Command.TheVariants as Cmd
use Rattle.log_command.specs.Commands.{command_head, is_refused}
use Rattle.log_cursor.specs.Step.{step_at, start_cursor}

unfoldable pub commands_from : ℕ → List ℕ → Cursor → List Command
commands_from zero log c = []
commands_from (suc calls) log c =
    let s = step_at log c in
    s.command ∷ cond (is_refused s.command) [] (commands_from calls log s.next)

unfoldable pub walk : List ℕ → List Command
walk log = commands_from (length log + 1) log start_cursor

-- the head that the first call hands out
abbrev pub log_head : List ℕ → Head
log_head log = command_head (step_at log start_cursor).command

unfoldable pub last_of : List Command → Command
last_of [] = Cmd.Refused 34 0
last_of (c ∷ []) = c
last_of (c ∷ d ∷ ds) = last_of (d ∷ ds)

-- one call, as a loop over a walk makes it
pub commands_next : (calls : ℕ) (log : List ℕ) (c : Cursor) (s : WalkStep) (t : Bool) → 0 < calls → s ≡ step_at log c → t ≡ is_refused s.command
    → commands_from calls log c ≡ s.command ∷ cond t [] (commands_from (calls - 1) log s.next)
unfolding commands_from
commands_next zero log c s t p e f = absurd (omega arith)
commands_next (suc calls) log c s t p e f =
    let q : suc calls - 1 ≡ calls = omega arith in
    rw (f, e, q)
