-- 01, "Log": "A walker over a lent log hands out one command a call." One call, from any cursor: the command, and the cursor after it.
-- Refusals 13 to 18: "14 command unknown or not due (due are: a head first and only there, then blocks until the grid is full, then the end); 13 bytes
-- end before the command is complete; 15 head that 1, 3, 4 or 5 would turn away; 16 block vector no candidate, distortion below 0 or over 255 × N², or a
-- still block as command 2; 17 end with another number; 18 bytes after the end. First offset wins; at one command 14, then 13, then the rest. The
-- place is the command's offset (the log's length if none begins, the first extra byte for 18)." 02, request 4: command 5 "with 65,535 or less [...] is
-- turned away by 16"; command 6 "carrying any other" measure than 2 "is turned away by 15". So a head and a block are taken under their own number alone.
--   judged       "at one command 14, then 13, then the rest"
--   taken        "carrying any other is turned away": a head or a block is taken under its own number alone
--   head_due, block_due, still_due, end_due   a command of that kind in the phase in which it may be due
--   start_command, body_command, after_end   what a call hands out at the start, among the blocks, after the end: "The command byte decides"
--   refused_step, command_step, step_of      a command with the cursor after it
--   step_at       one call of the walker, 34 included
--   start_cursor  where a walk begins; body_cursor: a place among the blocks
use Rattle.std.specs.Prelude.{ℕ, ◌+◌, ◌≤◌, ◌<◌, ◌≡◌, ◌⊎◌, List, Bool, cond, not, ◌&&◌, ◌||◌, length, ltb, ℤ, pos}
use Rattle.std.proofs.Math.Path.{refl, sym}
use Rattle.std.proofs.Common.{ap, ◌∙◌, inl, inr, ⊎_elim, arith, leb→le, eqb→eq}
use Rattle.std.proofs.Math.Bool.{true, false}
use Rattle.std.proofs.Math.ListN.{get_or}
use Rattle.std.proofs.Math.Dec.{leb, eqb}
use borrow.Author.Tests.{le-leb, lt-leb, leb-true, eqb-true, eq-eqb, ne_eqb}
use Rattle.base.specs.Tests.{and_left, and_right, or_true, true_T}
use Rattle.log_head.specs.declared.Head.{Head}
use Rattle.log_head.specs.Heads.{head_refusal, head_ok, head_blocks, entry_ok, is_still}
use Rattle.log_command.specs.declared.Command.{Command}
use Rattle.log_command.specs.declared.Command.TheVariants as Cmd
use Rattle.log_command.specs.Numbers.{be4}
use Rattle.log_command.specs.Commands.{command_number, command_size, size_by, head_size, block_size}
use Rattle.log_command.specs.Operands.{head_in, dy_in, dx_in, distortion_in, block_in}
use Rattle.log_cursor.specs.declared.Phase.{Phase}
use Rattle.log_cursor.specs.declared.Phase.TheVariants.{Start, Body, Ended, Over}
use Rattle.log_cursor.specs.declared.Cursor.{Cursor}
use Rattle.log_cursor.specs.declared.WalkStep.{WalkStep}

-- ---- a command of each kind at an offset, in the phase in which it may be due

-- due or not, of so many bytes, and what is to be said once it is due and whole
unfoldable pub judged : Bool → ℕ → List ℕ → ℕ → Command → Command
judged due size log at rest = cond due (cond (leb (at + size) (length log)) rest (Cmd.Refused 13 at)) (Cmd.Refused 14 at)

-- a head or a block that the rules let pass, under its own number alone; else refused by this number
unfoldable pub taken : Bool → Command → ℕ → List ℕ → ℕ → Command
taken passes command refusal log at = cond (passes && eqb (get_or log at 0) (command_number command)) command (Cmd.Refused refusal at)

-- "a head first and only there": at the start it is due
abbrev pub head_taken : List ℕ → ℕ → Command
head_taken log at = let h = head_in log at in taken (head_ok h) (Cmd.Head h) 15 log at

abbrev pub head_due : List ℕ → ℕ → Command
head_due log at = judged true (size_by (get_or log at 0)) log at (head_taken log at)

-- "then blocks until the grid is full": k of them are read. 16 lets the block pass as block k
abbrev pub block_passes : Head → ℕ → ℤ → ℤ → ℕ → Bool
block_passes h k dy dx distortion = entry_ok h k dy dx (pos distortion) && not (is_still dy dx (pos distortion))

abbrev pub block_taken : List ℕ → ℕ → Head → ℕ → Command
block_taken log at h k = taken (block_passes h k (dy_in log at) (dx_in log at) (distortion_in log at)) (block_in log at) 16 log at

abbrev pub block_due : List ℕ → ℕ → Head → ℕ → Command
block_due log at h k = judged (ltb k (head_blocks h)) (size_by (get_or log at 0)) log at (block_taken log at h k)

abbrev pub still_due : List ℕ → ℕ → Head → ℕ → Command
still_due log at h k = judged (ltb k (head_blocks h)) (command_size Cmd.Still) log at Cmd.Still

-- "then the end", with the number of the grid's blocks
unfoldable pub end_taken : List ℕ → ℕ → Head → Command
end_taken log at h = cond (eqb (be4 log (at + 1)) (head_blocks h)) (Cmd.End (head_blocks h)) (Cmd.Refused 17 at)

abbrev pub end_due : List ℕ → ℕ → Head → ℕ → Command
end_due log at h k = judged (leb (head_blocks h) k) (command_size (Cmd.End (head_blocks h))) log at (end_taken log at h)

-- ---- what a call hands out, by phase

-- "The command byte decides: 1 head, 2 block, 3 still block, 4 end"; 5 is a block and 6 a head too: "Unknown are now 0 and 7 to 255" (02, request 4). 13 at
-- the log's length if none begins.
unfoldable pub start_command : List ℕ → ℕ → Command
start_command log at =
    let byte = get_or log at 0 in
    cond (leb (length log) at) (Cmd.Refused 13 at)
    (cond (eqb byte 1 || eqb byte 6) (head_due log at)
    (Cmd.Refused 14 at))

unfoldable pub body_command : List ℕ → ℕ → Head → ℕ → Command
body_command log at h k =
    let byte = get_or log at 0 in
    cond (leb (length log) at) (Cmd.Refused 13 at)
    (cond (eqb byte 2 || eqb byte 5) (block_due log at h k)
    (cond (eqb byte 3) (still_due log at h k)
    (cond (eqb byte 4) (end_due log at h k)
    (Cmd.Refused 14 at))))

-- "The call after the end command answers 18 if bytes follow it, else 34."
abbrev pub after_end : List ℕ → ℕ → Command
after_end log at = cond (ltb at (length log)) (Cmd.Refused 18 at) (Cmd.Refused 34 0)

-- ---- one call

-- refused with a number and a place; the walker keeps its place and is over
abbrev pub refused_step : ℕ → ℕ → ℕ → WalkStep
refused_step at number place = record { command = Cmd.Refused number place; next = record { at = at; phase = Over } }

-- a command at `at`; the walker then stands behind it, in this phase
abbrev pub command_step : Command → ℕ → Phase → WalkStep
command_step command at phase = record { command = command; next = record { at = at + command_size command; phase = phase } }

-- the step that hands a command out; `counted` is the phase behind a block
abbrev pub step_of : Command → ℕ → Phase → WalkStep
step_of (Cmd.Head h) at counted = command_step (Cmd.Head h) at (Body h 0)
step_of (Cmd.Block dy dx distortion) at counted = command_step (Cmd.Block dy dx distortion) at counted
step_of Cmd.Still at counted = command_step Cmd.Still at counted
step_of (Cmd.End blocks) at counted = command_step (Cmd.End blocks) at Ended
step_of (Cmd.Refused number place) at counted = refused_step at number place

-- head numbers that 15 lets pass, and no more blocks than the grid has
unfoldable pub standing_ok : Head → ℕ → Bool
standing_ok h k = head_ok h && leb k (head_blocks h)

abbrev pub body_step : List ℕ → ℕ → Head → ℕ → WalkStep
body_step log at h k = step_of (body_command log at h k) at (Body h (k + 1))

abbrev pub by_phase : List ℕ → ℕ → Phase → WalkStep
by_phase log at Start = step_of (start_command log at) at Over
by_phase log at (Body h k) = cond (standing_ok h k) (body_step log at h k) (refused_step at 34 0)
by_phase log at Ended = step_of (after_end log at) at Over
by_phase log at Over = refused_step at 34 0

-- "34 walker called after a refusal, or after its end with no byte left, or one built by hand whose place is past the log, whose head numbers (once a
-- head is read) 15 would turn away, or whose blocks exceed the grid; place 0". A measure built by hand that is neither 1 nor 2 is one of those.
unfoldable pub step_at : List ℕ → Cursor → WalkStep
step_at log c = cond (ltb (length log) c.at) (refused_step c.at 34 0) (by_phase log c.at c.phase)

abbrev pub start_cursor : Cursor
start_cursor = record { at = 0; phase = Start }

-- the cursor among the blocks, with k of them read
abbrev pub body_cursor : Head → ℕ → ℕ → Cursor
body_cursor h at k = record { at = at; phase = Body h k }

-- ---- laws

-- a byte that is one of two, and one that is neither
pub one_of : (b m n : ℕ) → (b ≡ m) ⊎ (b ≡ n) → (eqb b m || eqb b n) ≡ true
one_of b m n = ⊎_elim (λ e. rw (eq-eqb b m e)) (λ e. rw (eq-eqb b n e) (or_true (eqb b m)))

pub none_of : (b m n : ℕ) → ((b ≡ m) ⊎ (b ≡ n) → ⊥) → (eqb b m || eqb b n) ≡ false
none_of b m n neither = rw (ne_eqb b m (λ e. neither (inl e)), ne_eqb b n (λ e. neither (inr e)))

module _ (size : ℕ) (log : List ℕ) (at : ℕ) (rest : Command) where
  pub judged_no : (due : Bool) → due ≡ false → judged due size log at rest ≡ Cmd.Refused 14 at
  unfolding judged
  judged_no due e = rw e

  pub judged_short : (due : Bool) → due ≡ true → length log < at + size → judged due size log at rest ≡ Cmd.Refused 13 at
  unfolding judged
  judged_short due e h = rw (e, lt-leb (at + size) (length log) h)

  pub judged_whole : (due : Bool) → due ≡ true → at + size ≤ length log → judged due size log at rest ≡ rest
  unfolding judged
  judged_whole due e h = rw (e, le-leb (at + size) (length log) h)

pub standing_head : (h : Head) (k : ℕ) → standing_ok h k ≡ true → head_refusal h ≡ 0
unfolding standing_ok
standing_head h k e = eqb→eq (head_refusal h) 0 (and_left (head_ok h) (leb k (head_blocks h)) (true_T _ e))

pub standing_blocks : (h : Head) (k : ℕ) → standing_ok h k ≡ true → k ≤ head_blocks h
unfolding standing_ok
standing_blocks h k e = leb→le k (head_blocks h) (and_right (head_ok h) (leb k (head_blocks h)) (true_T _ e))

-- what a whole command that is due comes to
module _ (log : List ℕ) (at : ℕ) where
  pub taken_no : (passes : Bool) (command : Command) (refusal : ℕ) → passes ≡ false → taken passes command refusal log at ≡ Cmd.Refused refusal at
  unfolding taken
  taken_no passes command refusal e = rw e

  pub taken_other : (passes : Bool) (command : Command) (refusal : ℕ) → passes ≡ true → (get_or log at 0 ≡ command_number command → ⊥)
      → taken passes command refusal log at ≡ Cmd.Refused refusal at
  unfolding taken
  taken_other passes command refusal e n = rw (e, ne_eqb (get_or log at 0) (command_number command) n)

  pub taken_yes : (passes : Bool) (command : Command) (refusal : ℕ) → passes ≡ true → get_or log at 0 ≡ command_number command
      → taken passes command refusal log at ≡ command
  unfolding taken
  taken_yes passes command refusal e o = rw (e, eq-eqb (get_or log at 0) (command_number command) o)

  pub end_no : (h : Head) → (be4 log (at + 1) ≡ head_blocks h → ⊥) → end_taken log at h ≡ Cmd.Refused 17 at
  unfolding end_taken
  end_no h n = rw (ne_eqb (be4 log (at + 1)) (head_blocks h) n)

  pub end_yes : (h : Head) → be4 log (at + 1) ≡ head_blocks h → end_taken log at h ≡ Cmd.End (head_blocks h)
  unfolding end_taken
  end_yes h e = rw (eq-eqb (be4 log (at + 1)) (head_blocks h) e)

-- ---- what is handed out lies inside the log

pub record Within (log : List ℕ) (at : ℕ) (command : Command) : Type 0 where
  pub size : at + command_size command ≤ length log

module _ {log : List ℕ} {at : ℕ} (inside : at ≤ length log) where
  within_refused : (number place : ℕ) → Within log at (Cmd.Refused number place)
  within_refused number place = record { size = omega arith }

  within_cond : (t : Bool) {x y : Command} → Within log at x → Within log at y → Within log at (cond t x y)
  within_cond true a b = a
  within_cond false a b = b

  within_judged : (due : Bool) (size : ℕ) (rest : Command) → (at + size ≤ length log → Within log at rest) → Within log at (judged due size log at rest)
  unfolding judged
  within_judged due size rest f = within_cond due (go (leb (at + size) (length log)) refl) (within_refused 14 at)
    where
      go : (t : Bool) → leb (at + size) (length log) ≡ t → Within log at (cond t rest (Cmd.Refused 13 at))
      go true e = f (leb-true _ _ e)
      go false e = within_refused 13 at

  within_taken : (passes : Bool) (command : Command) (refusal : ℕ) → command_size command ≡ size_by (command_number command)
      → at + size_by (get_or log at 0) ≤ length log → Within log at (taken passes command refusal log at)
  unfolding taken
  within_taken false command refusal s f = within_refused refusal at
  within_taken true command refusal s f = go (eqb (get_or log at 0) (command_number command)) refl
    where
      go : (t : Bool) → eqb (get_or log at 0) (command_number command) ≡ t → Within log at (cond t command (Cmd.Refused refusal at))
      go true e = let q : command_size command ≡ size_by (get_or log at 0) = s ∙ sym (ap size_by (eqb-true (get_or log at 0) (command_number command) e)) in record { size = rw q f }
      go false e = within_refused refusal at

  pub start_within : Within log at (start_command log at)
  unfolding start_command
  start_within =
      let h = head_in log at in
      let byte = get_or log at 0 in
      within_cond (leb (length log) at) (within_refused 13 at)
      (within_cond (eqb byte 1 || eqb byte 6)
      (within_judged true (size_by byte) (head_taken log at) (within_taken (head_ok h) (Cmd.Head h) 15 (head_size h)))
      (within_refused 14 at))

  pub body_within : (h : Head) (k : ℕ) → Within log at (body_command log at h k)
  unfolding body_command end_taken
  body_within h k =
      let byte = get_or log at 0 in
      within_cond (leb (length log) at) (within_refused 13 at)
      (within_cond (eqb byte 2 || eqb byte 5)
      (within_judged (ltb k (head_blocks h)) (size_by byte) (block_taken log at h k)
      (within_taken (block_passes h k (dy_in log at) (dx_in log at) (distortion_in log at)) (block_in log at) 16 (block_size (dy_in log at) (dx_in log at) (distortion_in log at))))
      (within_cond (eqb byte 3) (within_judged (ltb k (head_blocks h)) (command_size Cmd.Still) Cmd.Still (λ f. record { size = f }))
      (within_cond (eqb byte 4)
      (within_judged (leb (head_blocks h) k) (command_size (Cmd.End (head_blocks h))) (end_taken log at h)
      (λ f. within_cond (eqb (be4 log (at + 1)) (head_blocks h)) (record { size = f }) (within_refused 17 at)))
      (within_refused 14 at))))

  pub end_within : Within log at (after_end log at)
  end_within = within_cond (ltb at (length log)) (within_refused 18 at) (within_refused 34 0)
