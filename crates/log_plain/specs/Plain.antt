-- A walk's cursor and commands as plain numbers, for callers that have no enums.
--   phase_of, cursor_of   the cursor that plain numbers stand for: phase 0 before the head, 1 among the blocks, 2 after the end, any other after a refusal
--   plain_in, plain_of    a cursor as plain numbers; where a phase has no head and no blocks they are 0
--   answer_of            the number and the values of each case of a command, beside the cursor after it
--   walk_from            one call of the walker
--   answers_from         the answers that a caller sees who hands `next` back until a refusal, in so many calls at most
--   CommandsOf          answers that tell these commands, one each and in order, whatever place is beside each
use Rattle.std.specs.Prelude.{ℕ, zero, suc, ◌≡◌, refl, List, [], ◌∷◌, cond, eqb, ℤ, pos}
use Rattle.log_head.specs.declared.Head.{Head}
use Rattle.log_head.specs.Heads.{no_head}
use Rattle.log_cursor.specs.declared.Phase.{Phase}
use Rattle.log_cursor.specs.declared.Phase.TheVariants.{Start, Body, Ended, Over}
use Rattle.log_cursor.specs.declared.Cursor.{Cursor}
use Rattle.log_command.specs.declared.Command.{Command}
use Rattle.log_command.specs.declared.Command.TheVariants as Cmd
use Rattle.log_command.specs.Commands.{command_number}
use Rattle.log_cursor.specs.Step.{step_at}
use Rattle.log_plain.specs.declared.Place.{Place}
use Rattle.log_plain.specs.declared.Walked.{Walked}

-- ---- cursors

unfoldable pub phase_of : ℕ → Head → ℕ → Phase
phase_of phase h blocks = cond (eqb phase 0) Start (cond (eqb phase 1) (Body h blocks) (cond (eqb phase 2) Ended Over))

abbrev pub cursor_of : Place → Cursor
cursor_of p = record { at = p.at; phase = phase_of p.phase p.head p.blocks }

abbrev pub plain_numbers : ℕ → ℕ → Head → ℕ → Place
plain_numbers at phase h blocks = record { at = at; phase = phase; head = h; blocks = blocks }

abbrev pub plain_in : ℕ → Phase → Place
plain_in at Start = plain_numbers at 0 no_head 0
plain_in at (Body h blocks) = plain_numbers at 1 h blocks
plain_in at Ended = plain_numbers at 2 no_head 0
plain_in at Over = plain_numbers at 3 no_head 0

abbrev pub plain_of : Cursor → Place
plain_of c = plain_in c.at c.phase

-- the plain numbers of a walk's cursor stand for it: a walk goes on as it would
pub cursor_plain : (c : Cursor) → cursor_of (plain_of c) ≡ c
unfolding phase_of
cursor_plain c = go c.at c.phase
  where
    go : (at : ℕ) (p : Phase) → cursor_of (plain_in at p) ≡ record { at = at; phase = p }
    go at Start = refl
    go at (Body h blocks) = refl
    go at Ended = refl
    go at Over = refl

-- ---- commands

abbrev pub answer : (refusal place command : ℕ) → Head → (dy dx : ℤ) → (distortion blocks : ℕ) → Place → Walked
answer refusal place command h dy dx distortion blocks next =
    record { refusal = refusal; place = place; command = command; head = h; dy = dy; dx = dx; distortion = distortion; blocks = blocks; next = next }

abbrev pub answer_of : Command → Place → Walked
answer_of (Cmd.Head h) next = answer 0 0 (command_number (Cmd.Head h)) h (pos 0) (pos 0) 0 0 next
answer_of (Cmd.Block dy dx distortion) next = answer 0 0 (command_number (Cmd.Block dy dx distortion)) no_head dy dx distortion 0 next
answer_of Cmd.Still next = answer 0 0 (command_number Cmd.Still) no_head (pos 0) (pos 0) 0 0 next
answer_of (Cmd.End blocks) next = answer 0 0 (command_number (Cmd.End blocks)) no_head (pos 0) (pos 0) 0 blocks next
answer_of (Cmd.Refused number place) next = answer number place 0 no_head (pos 0) (pos 0) 0 0 next

unfoldable pub walk_from : List ℕ → Place → Walked
walk_from log p = let s = step_at log (cursor_of p) in answer_of s.command (plain_of s.next)

-- ---- a caller's walk

unfoldable pub answers_from : ℕ → List ℕ → Place → List Walked
answers_from zero log p = []
answers_from (suc calls) log p =
    let w = walk_from log p in
    w ∷ cond (eqb w.refusal 0) (answers_from calls log w.next) []

pub data CommandsOf : List Walked → List Command → Type 0 where
  none : CommandsOf [] []
  more : (c : Command) (next : Place) {ws : List Walked} {cs : List Command} → CommandsOf ws cs → CommandsOf (answer_of c next ∷ ws) (c ∷ cs)
