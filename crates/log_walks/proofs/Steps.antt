-- A command's bytes, where it is due and allowed, make the walker hand it out: each number reads back as it was written.
use Prim.Native.Nat.{ℕ, ◌+◌, ◌/◌, ◌%◌, ◌≤◌, ◌<◌}
use mathlib.Core.Path.{◌≡◌, refl, sym, ap, ◌∙◌}
use mathlib.Core.List.{List, ◌∷◌, ◌++◌}
use mathlib.Core.Bool.{Bool, true, false, cond, ◌||◌}
use native.Mathlib.Nat.{add-zero, add_assoc, div-add-mod'}
use native.Mathlib.Omega.{arith}
use borrow.Author.Tests.{lt-ltb, le-ltb, le-leb, lt-leb, eq-eqb, eqb-false}
use lib.Dec.{eqb}
use lib.IntN.{ℤ, pos}
use lib.ListN.{length, get_or, drop, length-append, length-drop}
use lib.Seq.{get_or-drop, drop-drop, drop-append_seam}
use Rattle.signed.specs.Int.{up, same}
use Rattle.signed.specs.Values.{byte_of, signed_byte_of}
use Rattle.log_head.specs.declared.Head.{Head}
use Rattle.log_cursor.specs.declared.Phase.TheVariants.{Body, Ended}
use Rattle.log_cursor.specs.declared.Cursor.{Cursor}
use Rattle.log_command.specs.declared.Command.TheVariants as Cmd
use Rattle.log_command.specs.Numbers.{be2, be4, bytes2, bytes4}
use Rattle.log_command.specs.Commands.{carries, is_long, head_number, block_number, command_bytes, size_by, head_size, block_size}
use Rattle.log_head.specs.Heads.{head_refusal, headed, head_blocks, entry_ok, is_still, entry}
use Rattle.log_cursor.specs.Step.{refused_step, command_step, judged, head_taken, block_passes, block_taken, end_taken, taken_yes}
use Rattle.log_cursor.specs.Step.{start_command, body_command, body_step, standing_ok, step_at, start_cursor}
use Rattle.log_command.specs.Operands.{head_in, dy_in, dx_in, distortion_in}

-- ---- a log that goes on with some bytes at an offset

module _ (log : List ℕ) (at : ℕ) (front rest : List ℕ) (goes : drop at log ≡ front ++ rest) where
  byte_there : (i : ℕ) → get_or log (at + i) 0 ≡ get_or (front ++ rest) i 0
  byte_there i = sym (get_or-drop at log i 0) ∙ ap (λ (l : List ℕ). get_or l i 0) goes

  further : (i j : ℕ) → get_or log (at + i + j) 0 ≡ get_or (front ++ rest) (i + j) 0
  further i j = ap (λ (k : ℕ). get_or log k 0) (add_assoc at i j) ∙ byte_there (i + j)

  first_there : get_or log at 0 ≡ get_or (front ++ rest) 0 0
  first_there = ap (λ (i : ℕ). get_or log i 0) (sym (add-zero at)) ∙ byte_there 0

  pub room : 0 < length front → at + length front ≤ length log
  room h = omega (arith, length-drop at log, ap length goes, length-append front rest)

  pub behind : drop (at + length front) log ≡ rest
  behind = sym (drop-drop (length front) at log) ∙ rw goes (drop-append_seam front rest)

-- a number of two or four bytes there
be2_there : (log : List ℕ) (i n : ℕ) → get_or log i 0 ≡ n / 256 → get_or log (i + 1) 0 ≡ n % 256 → be2 log i ≡ n
unfolding be2
be2_there log i n e f = rw (e, f) (div-add-mod' n 256)

be4_there : (log : List ℕ) (i n : ℕ) → get_or log i 0 ≡ n / 65536 / 256 → get_or log (i + 1) 0 ≡ n / 65536 % 256 → get_or log (i + 2) 0 ≡ n % 65536 / 256
    → get_or log (i + 3) 0 ≡ n % 65536 % 256 → be4 log i ≡ n
unfolding be4
be4_there log i n a b c d =
    let e : i + 2 + 1 ≡ i + 3 = omega arith in
    rw (be2_there log i (n / 65536) a b, be2_there log (i + 2) (n % 65536) c (rw e d)) (div-add-mod' n 65536)

-- the numbers of a head and of a block are among those that begin one
begins_head : (h : Head) → (eqb (head_number h) 1 || eqb (head_number h) 6) ≡ true
begins_head h = go (carries h)
  where
    go : (t : Bool) → (eqb (cond t 6 1) 1 || eqb (cond t 6 1) 6) ≡ true
    go true = refl
    go false = refl

begins_block : (distortion : ℕ) → (eqb (block_number distortion) 2 || eqb (block_number distortion) 5) ≡ true
begins_block distortion = go (is_long distortion)
  where
    go : (t : Bool) → (eqb (cond t 5 2) 2 || eqb (cond t 5 2) 5) ≡ true
    go true = refl
    go false = refl

-- ---- among the blocks

module _ (log : List ℕ) (at : ℕ) (h : Head) (k : ℕ) (ok : head_refusal h ≡ 0) where
  abbrev here : Cursor
  here = record { at = at; phase = Body h k }

  -- the walk goes on with the command there
  pub body_is : k ≤ head_blocks h → at ≤ length log → step_at log here ≡ body_step log at h k
  unfolding step_at standing_ok
  body_is l m = rw (le-ltb (length log) at (omega arith), eq-eqb (head_refusal h) 0 ok, le-leb k (head_blocks h) l)

  distortion_there : (dy dx : ℤ) (d : ℕ) (rest : List ℕ) → drop at log ≡ command_bytes (Cmd.Block dy dx d) ++ rest → distortion_in log at ≡ d
  distortion_there dy dx d rest goes = go (is_long d) refl
    where
      go : (t : Bool) → is_long d ≡ t → distortion_in log at ≡ d
      go true e =
          let front : List ℕ = 5 ∷ byte_of dy ∷ byte_of dx ∷ bytes4 d in
          let there = further log at front rest (rw e at goes) in
          rw (first_there log at front rest (rw e at goes))
          (be4_there log (at + 3) d (byte_there log at front rest (rw e at goes) 3) (there 3 1) (there 3 2) (there 3 3))
      go false e =
          let front : List ℕ = 2 ∷ byte_of dy ∷ byte_of dx ∷ bytes2 d in
          rw (first_there log at front rest (rw e at goes))
          (be2_there log (at + 3) d (byte_there log at front rest (rw e at goes) 3) (further log at front rest (rw e at goes) 3 1))

  pub block_step : k < head_blocks h → (dy dx z : ℤ) → entry_ok h k dy dx z ≡ true → is_still dy dx z ≡ false → (rest : List ℕ)
      → drop at log ≡ command_bytes (Cmd.Block dy dx (up z)) ++ rest
      → step_at log here ≡ command_step (Cmd.Block dy dx (up z)) at (Body h (k + 1))
  unfolding body_command judged
  block_step l dy dx z o s rest goes =
      let d = up z in
      let there = byte_there log at (command_bytes (Cmd.Block dy dx d)) rest goes in
      let is = entry h ok k dy dx z o in
      let value : pos d ≡ z = same (pos d) z (omega (arith, is.above)) in
      let byte : get_or log at 0 ≡ block_number d = first_there log at (command_bytes (Cmd.Block dy dx d)) rest goes in
      let within = room log at (command_bytes (Cmd.Block dy dx d)) rest goes (omega arith) in
      let m : at + size_by (block_number d) ≤ length log = rw (← (block_size dy dx d)) within in
      let y : dy_in log at ≡ dy = rw (there 1) (signed_byte_of dy (omega (arith, is.down))) in
      let x : dx_in log at ≡ dx = rw (there 2) (signed_byte_of dx (omega (arith, is.across))) in
      let n : distortion_in log at ≡ d = distortion_there dy dx d rest goes in
      let passes : block_passes h k dy dx d ≡ true = rw (value, o, s) in
      let is-taken : block_taken log at h k ≡ Cmd.Block dy dx d = rw (y, x, n) (taken_yes log at _ (Cmd.Block dy dx d) 16 passes byte) in
      body_is (omega arith) (omega (arith, within))
      ∙ rw (
        lt-leb (length log) at (omega (arith, within)),
        is-taken,
        byte,
        begins_block d,
        lt-ltb k (head_blocks h) l,
        le-leb (at + size_by (block_number d)) (length log) m,
      )

  pub still_step : k < head_blocks h → (rest : List ℕ) → drop at log ≡ command_bytes Cmd.Still ++ rest
      → step_at log here ≡ command_step Cmd.Still at (Body h (k + 1))
  unfolding body_command judged
  still_step l rest goes =
      let m : at + 1 ≤ length log = room log at (command_bytes Cmd.Still) rest goes (omega arith) in
      let command : get_or log at 0 ≡ 3 = first_there log at (command_bytes Cmd.Still) rest goes in
      body_is (omega arith) (omega arith) ∙ rw (lt-leb (length log) at (omega arith), command, lt-ltb k (head_blocks h) l, le-leb (at + 1) (length log) m)

  pub end_step : k ≡ head_blocks h → (rest : List ℕ) → drop at log ≡ command_bytes (Cmd.End (head_blocks h)) ++ rest
      → step_at log here ≡ command_step (Cmd.End (head_blocks h)) at Ended
  unfolding body_command judged end_taken
  end_step l rest goes =
      let bytes = command_bytes (Cmd.End (head_blocks h)) in
      let there = further log at bytes rest goes in
      let m : at + 5 ≤ length log = room log at bytes rest goes (omega arith) in
      let command : get_or log at 0 ≡ 4 = first_there log at bytes rest goes in
      let n : be4 log (at + 1) ≡ head_blocks h = be4_there log (at + 1) (head_blocks h) (byte_there log at bytes rest goes 1) (there 1 1) (there 1 2) (there 1 3) in
      body_is (omega arith) (omega arith)
      ∙ rw (
        lt-leb (length log) at (omega arith),
        command,
        le-leb (head_blocks h) k (omega arith),
        le-leb (at + 5) (length log) m,
        eq-eqb (be4 log (at + 1)) (head_blocks h) n,
      )

-- after the end, with no byte left
pub ended_step : (log : List ℕ) (at : ℕ) → at ≡ length log → step_at log (record { at = at; phase = Ended }) ≡ refused_step at 34 0
unfolding step_at
ended_step log at e = rw (le-ltb (length log) at (omega arith), le-ltb at (length log) (omega arith))

-- the head, at the start
pub head_in_there : (h : Head) (rest : List ℕ) → head_refusal h ≡ 0 → head_in (command_bytes (Cmd.Head h) ++ rest) 0 ≡ h
unfolding head_in be2
head_in_there h rest ok = go (carries h) refl
  where
    go : (t : Bool) → carries h ≡ t → head_in (command_bytes (Cmd.Head h) ++ rest) 0 ≡ h
    go true e = rw (e, div-add-mod' h.width 256, div-add-mod' h.height 256)
    go false e =
        let m : h.measure ≡ 1 = omega (arith, (headed h ok).measure, eqb-false h.measure 2 e) in
        rw (e, div-add-mod' h.width 256, div-add-mod' h.height 256, ← m)

pub head_step : (h : Head) (rest : List ℕ) → head_refusal h ≡ 0
    → step_at (command_bytes (Cmd.Head h) ++ rest) start_cursor ≡ command_step (Cmd.Head h) 0 (Body h 0)
unfolding step_at start_command judged
head_step h rest ok =
    let log = command_bytes (Cmd.Head h) ++ rest in
    let long = length-append (command_bytes (Cmd.Head h)) rest in
    let is-taken : head_taken log 0 ≡ Cmd.Head h = rw (head_in_there h rest ok) (taken_yes log 0 _ (Cmd.Head h) 15 (eq-eqb (head_refusal h) 0 ok) refl) in
    rw (
      le-ltb (length log) 0 (omega arith),
      lt-leb (length log) 0 (omega arith),
      begins_head h,
      le-leb (0 + size_by (head_number h)) (length log) (omega (arith, head_size h, long)),
      is-taken,
    )
