-- 01, "Log": "A walker over a lent log hands out one command a call." The outcomes of one call, from any cursor, each with all that it says.
--   NoMore   what 34 is answered for
--   Reason   what a refusal's number says: it is 13 or more, and 34 has place 0
--   Kind     the outcomes: refused; a head, a block, a still block, the end
--   kinds    every call has one of them
use Prim.Native.Nat.{ℕ, ◌+◌, ◌≤◌, ◌<◌}
use Rattle.std.specs.Prelude.{◌≡◌, List, Bool, cond, not, ◌&&◌, ◌||◌, ltb, ℤ, pos}
use Rattle.std.proofs.Math.Path.{refl}
use Rattle.std.proofs.Common.{ap, sym, ◌∙◌, arith, ltb-true, ltb-false, leb-true, eqb-true}
use Rattle.std.proofs.Math.Bool.{true, false}
use Rattle.std.proofs.Math.ListN.{length, get_or}
use Rattle.std.proofs.Math.Dec.{leb, eqb}
use Rattle.log_head.specs.declared.Head.{Head}
use Rattle.log_head.specs.Heads.{head_refusal, head_ok, head_blocks, entry_ok, is_still}
use Rattle.log_command.specs.declared.Command.{Command}
use Rattle.log_command.specs.declared.Command.TheVariants as Cmd
use Rattle.log_command.specs.Numbers.{be4}
use Rattle.log_command.specs.Commands.{command_number, command_size, size_by, head_size, block_size}
use Rattle.log_command.specs.Operands.{head_in, dy_in, dx_in, distortion_in, block_in}
use Rattle.log_cursor.specs.declared.Phase.{Phase}
use Rattle.log_cursor.specs.declared.Phase.TheVariants.{Start, Body, Ended, Over}
use Rattle.log_cursor.specs.declared.Cursor.{Cursor}
use Rattle.log_cursor.specs.declared.WalkStep.{WalkStep}
use Rattle.log_cursor.specs.Step.{judged, taken, head_taken, head_due, block_passes, block_taken, block_due, still_due, end_taken, end_due, start_command, body_command}
use Rattle.log_cursor.specs.Step.{refused_step, command_step, step_of, standing_ok, body_step, by_phase, step_at, standing_head, standing_blocks}

-- "34 walker called after a refusal, or after its end with no byte left, or one built by hand"
pub data NoMore (log : List ℕ) (c : Cursor) : Type 0 where
  past : length log < c.at → NoMore log c
  unsound : (h : Head) (k : ℕ) → c.phase ≡ Body h k → standing_ok h k ≡ false → NoMore log c
  ended : c.phase ≡ Ended → length log ≤ c.at → NoMore log c
  over : c.phase ≡ Over → NoMore log c

pub record Reason (log : List ℕ) (c : Cursor) (number place : ℕ) : Type 0 where
  pub least : 13 ≤ number
  pub over : number ≡ 34 → (place ≡ 0) × NoMore log c

-- a command of the log stands at an offset: its byte, and room for it
pub record Stands (log : List ℕ) (at : ℕ) (command : Command) : Type 0 where
  pub byte : get_or log at 0 ≡ command_number command
  pub room : at + command_size command ≤ length log

pub data Kind (log : List ℕ) (c : Cursor) : WalkStep → Type 0 where
  refused : (number place : ℕ) → number ≤ 34 → place ≤ length log → Reason log c number place
      → Kind log c (refused_step c.at number place)
  head : c.phase ≡ Start → Stands log c.at (Cmd.Head (head_in log c.at)) → head_refusal (head_in log c.at) ≡ 0
      → Kind log c (command_step (Cmd.Head (head_in log c.at)) c.at (Body (head_in log c.at) 0))
  block : (h : Head) (k : ℕ) → c.phase ≡ Body h k → head_refusal h ≡ 0 → k < head_blocks h → Stands log c.at (block_in log c.at)
      → entry_ok h k (dy_in log c.at) (dx_in log c.at) (pos (distortion_in log c.at)) ≡ true
      → is_still (dy_in log c.at) (dx_in log c.at) (pos (distortion_in log c.at)) ≡ false
      → Kind log c (command_step (block_in log c.at) c.at (Body h (k + 1)))
  still : (h : Head) (k : ℕ) → c.phase ≡ Body h k → head_refusal h ≡ 0 → k < head_blocks h → Stands log c.at Cmd.Still
      → Kind log c (command_step Cmd.Still c.at (Body h (k + 1)))
  end : (h : Head) (k : ℕ) → c.phase ≡ Body h k → head_refusal h ≡ 0 → k ≡ head_blocks h → Stands log c.at (Cmd.End (head_blocks h))
      → be4 log (c.at + 1) ≡ head_blocks h
      → Kind log c (command_step (Cmd.End (head_blocks h)) c.at Ended)

-- ---- every call has one

module _ (log : List ℕ) (at : ℕ) (inside : at ≤ length log) where
  abbrev in_phase : Phase → Cursor
  in_phase phase = record { at = at; phase = phase }

  -- refused with a number below 34, at the command's offset
  away : (phase : Phase) (number : ℕ) → 13 ≤ number → number < 34 → Kind log (in_phase phase) (refused_step at number at)
  away phase number l h = refused number at (omega arith) inside (record { least = l; over = λ e. absurd (omega arith) })

  -- 34, for what the phase says
  no_more : (phase : Phase) → NoMore log (in_phase phase) → Kind log (in_phase phase) (refused_step at 34 0)
  no_more phase n = refused 34 0 (omega arith) (omega arith) (record { least = omega arith; over = λ e. (refl, n) })

  judged_kind : (phase counted : Phase) (due : Bool) (size : ℕ) (rest : Command)
      → (due ≡ true → at + size ≤ length log → Kind log (in_phase phase) (step_of rest at counted))
      → Kind log (in_phase phase) (step_of (judged due size log at rest) at counted)
  unfolding judged
  judged_kind phase counted due size rest k = go due refl (leb (at + size) (length log)) refl
    where
      go : (a : Bool) → due ≡ a → (b : Bool) → leb (at + size) (length log) ≡ b
          → Kind log (in_phase phase) (step_of (cond a (cond b rest (Cmd.Refused 13 at)) (Cmd.Refused 14 at)) at counted)
      go true e true f = k e (leb-true _ _ f)
      go true e false f = away phase 13 (omega arith) (omega arith)
      go false e b f = away phase 14 (omega arith) (omega arith)

  taken_kind : (phase counted : Phase) (passes : Bool) (command : Command) (refusal : ℕ) → 13 ≤ refusal → refusal < 34
      → (passes ≡ true → get_or log at 0 ≡ command_number command → Kind log (in_phase phase) (step_of command at counted))
      → Kind log (in_phase phase) (step_of (taken passes command refusal log at) at counted)
  unfolding taken
  taken_kind phase counted passes command refusal l m k = go passes refl (eqb (get_or log at 0) (command_number command)) refl
    where
      go : (a : Bool) → passes ≡ a → (b : Bool) → eqb (get_or log at 0) (command_number command) ≡ b
          → Kind log (in_phase phase) (step_of (cond (a && b) command (Cmd.Refused refusal at)) at counted)
      go true e true f = k e (eqb-true _ _ f)
      go true e false f = away phase refusal l m
      go false e b f = away phase refusal l m

  -- a command under its own number has room where the number's size has
  standing_in : (command : Command) → command_size command ≡ size_by (command_number command) → get_or log at 0 ≡ command_number command
      → at + size_by (get_or log at 0) ≤ length log → Stands log at command
  standing_in command s e f = let q : command_size command ≡ size_by (get_or log at 0) = s ∙ sym (ap size_by e) in record { byte = e; room = rw q f }

  -- ---- at the start

  start_kind : Kind log (in_phase Start) (step_of (start_command log at) at Over)
  unfolding start_command
  start_kind = go (leb (length log) at) (eqb byte 1 || eqb byte 6)
    where
      byte : ℕ
      byte = get_or log at 0

      h : Head
      h = head_in log at

      go : (t b : Bool) → Kind log (in_phase Start) (step_of (cond t (Cmd.Refused 13 at) (cond b (head_due log at) (Cmd.Refused 14 at))) at Over)
      go true b = away Start 13 (omega arith) (omega arith)
      go false true =
          judged_kind Start Over true (size_by byte) (head_taken log at)
          (λ d f.
          taken_kind Start Over (head_ok h) (Cmd.Head h) 15 (omega arith) (omega arith)
          (λ g e. head refl (standing_in (Cmd.Head h) (head_size h) e f) (eqb-true _ _ g)))
      go false false = away Start 14 (omega arith) (omega arith)

  -- ---- among the blocks

  module _ (h : Head) (k : ℕ) (s : standing_ok h k ≡ true) where
    abbrev counted : Phase
    counted = Body h (k + 1)

    block_kind : Kind log (in_phase (Body h k)) (step_of (block_due log at h k) at counted)
    block_kind =
        judged_kind (Body h k) counted (ltb k (head_blocks h)) (size_by (get_or log at 0)) (block_taken log at h k)
        (λ d f.
        taken_kind (Body h k) counted (block_passes h k dy dx distortion) (block_in log at) 16 (omega arith) (omega arith)
        (λ g e. go (ltb-true _ _ d) (standing_in (block_in log at) (block_size dy dx distortion) e f) (entry_ok h k dy dx (pos distortion)) refl
        (is_still dy dx (pos distortion)) refl g))
      where
        dy : ℤ
        dy = dy_in log at

        dx : ℤ
        dx = dx_in log at

        distortion : ℕ
        distortion = distortion_in log at

        go : k < head_blocks h → Stands log at (block_in log at) → (a : Bool) → entry_ok h k dy dx (pos distortion) ≡ a
            → (b : Bool) → is_still dy dx (pos distortion) ≡ b → (a && not b) ≡ true
            → Kind log (in_phase (Body h k)) (step_of (block_in log at) at counted)
        go d f true g false j e = block h k refl (standing_head h k s) d f g j
        go d f true g true j e = let z : ◌≡◌ {A = ℕ} 0 1 = cc in absurd (omega arith)
        go d f false g b j e = let z : ◌≡◌ {A = ℕ} 0 1 = cc in absurd (omega arith)

    still_kind : get_or log at 0 ≡ 3 → Kind log (in_phase (Body h k)) (step_of (still_due log at h k) at counted)
    still_kind e =
        judged_kind (Body h k) counted (ltb k (head_blocks h)) 1 Cmd.Still
        (λ d f. still h k refl (standing_head h k s) (ltb-true _ _ d) (record { byte = e; room = f }))

    end_kind : get_or log at 0 ≡ 4 → Kind log (in_phase (Body h k)) (step_of (end_due log at h k) at counted)
    unfolding end_taken
    end_kind e =
        judged_kind (Body h k) counted (leb (head_blocks h) k) 5 (end_taken log at h)
        (λ d f. go (standing_blocks h k s) (leb-true _ _ d) f (eqb (be4 log (at + 1)) (head_blocks h)) refl)
      where
        go : k ≤ head_blocks h → head_blocks h ≤ k → at + 5 ≤ length log → (a : Bool) → eqb (be4 log (at + 1)) (head_blocks h) ≡ a
            → Kind log (in_phase (Body h k)) (step_of (cond a (Cmd.End (head_blocks h)) (Cmd.Refused 17 at)) at counted)
        go l m f true g = end h k refl (standing_head h k s) (omega arith) (record { byte = e; room = f }) (eqb-true _ _ g)
        go l m f false g = away (Body h k) 17 (omega arith) (omega arith)

    body_kind : Kind log (in_phase (Body h k)) (body_step log at h k)
    unfolding body_command
    body_kind = go (leb (length log) at) (eqb byte 2 || eqb byte 5) (eqb byte 3) refl (eqb byte 4) refl
      where
        byte : ℕ
        byte = get_or log at 0

        go : (t b : Bool) (b3 : Bool) → eqb byte 3 ≡ b3 → (b4 : Bool) → eqb byte 4 ≡ b4
            → Kind log (in_phase (Body h k))
            (step_of
            (cond t (Cmd.Refused 13 at)
            (cond b (block_due log at h k) (cond b3 (still_due log at h k) (cond b4 (end_due log at h k) (Cmd.Refused 14 at)))))
            at
            counted)
        go true b b3 e3 b4 e4 = away (Body h k) 13 (omega arith) (omega arith)
        go false true b3 e3 b4 e4 = block_kind
        go false false true e3 b4 e4 = still_kind (eqb-true _ _ e3)
        go false false false e3 true e4 = end_kind (eqb-true _ _ e4)
        go false false false e3 false e4 = away (Body h k) 14 (omega arith) (omega arith)

  -- ---- in any phase

  phase_kind : (phase : Phase) → Kind log (in_phase phase) (by_phase log at phase)
  phase_kind Start = start_kind
  phase_kind (Body h k) = go (standing_ok h k) refl
    where
      go : (a : Bool) → standing_ok h k ≡ a → Kind log (in_phase (Body h k)) (cond a (body_step log at h k) (refused_step at 34 0))
      go true e = body_kind h k e
      go false e = no_more (Body h k) (unsound h k refl e)
  phase_kind Ended = go (ltb at (length log)) refl
    where
      go : (a : Bool) → ltb at (length log) ≡ a → Kind log (in_phase Ended) (step_of (cond a (Cmd.Refused 18 at) (Cmd.Refused 34 0)) at Over)
      go true e = away Ended 18 (omega arith) (omega arith)
      go false e = no_more Ended (ended refl (ltb-false _ _ e))
  phase_kind Over = no_more Over (over refl)

pub kinds : (log : List ℕ) (c : Cursor) → Kind log c (step_at log c)
unfolding step_at
kinds log c = go (ltb (length log) c.at) refl
  where
    go : (a : Bool) → ltb (length log) c.at ≡ a → Kind log c (cond a (refused_step c.at 34 0) (by_phase log c.at c.phase))
    go true e = refused 34 0 (omega arith) (omega arith) (record { least = omega arith; over = λ q. (refl, past (ltb-true _ _ e)) })
    go false e = phase_kind log c.at (ltb-false _ _ e) c.phase
