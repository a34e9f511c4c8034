-- A turn of the loop over the blocks: with a head that is known to pass, the command there is the walker's call, and where it is a block the walk goes on
-- among the blocks.
use Prim.Native.Nat.{ℕ, ◌+◌, ◌-◌, ◌*◌, ◌≤◌, ◌<◌}
use native.Mathlib.Omega.{arith}
use mathlib.Core.Path.{◌≡◌, refl, sym, ap, ◌∙◌}
use mathlib.Core.List.{List, [], ◌++◌, flat_map, append-nil}
use mathlib.Core.Bool.{Bool, true, false, cond}
use lib.ListN.{length}
use Rattle.put.specs.Put.{Put, StillToPut, put_then, rest_first, rest_last}
use Rattle.log_head.specs.declared.Head.{Head}
use Rattle.log_head.specs.Heads.{head_refusal, head_blocks}
use Rattle.log_command.specs.declared.Command.{Command}
use Rattle.log_command.specs.declared.Command.TheVariants as Cmd
use Rattle.log_command.specs.Commands.{command_size, command_head, is_refused}
use Rattle.log_cursor.specs.declared.Phase.{Phase}
use Rattle.log_cursor.specs.declared.Phase.TheVariants.{Body}
use Rattle.log_cursor.specs.declared.Cursor.{Cursor}
use Rattle.log_cursor.specs.declared.WalkStep.{WalkStep}
use Rattle.log_cursor.specs.Step.{body_command, command_step, step_of, body_step, step_at, start_cursor, body_cursor}
use Rattle.log_cursor.specs.Walk.{commands_from, commands_next, walk}
use Rattle.log_walks.specs.Cases.{Kind, kinds}
use Rattle.log_walks.specs.Cases as Cases
use Rattle.log_walks.proofs.Ends.{goes_on}
use Rattle.log_walks.proofs.Steps.{body_is}
use Rattle.log_walks.proofs.Accepted.{begun}
use Rattle.log_walks.proofs.Turns.{turn}
use Rattle.log_line.specs.Line.{line_of}

-- a step hands its command out
step_command : (x : Command) (at : ℕ) (counted : Phase) → (step_of x at counted).command ≡ x
step_command (Cmd.Head h) at counted = refl
step_command (Cmd.Block dy dx d) at counted = refl
step_command Cmd.Still at counted = refl
step_command (Cmd.End b) at counted = refl
step_command (Cmd.Refused r p) at counted = refl

-- the lines of k blocks are put: where the next command stands, and what is still to be put
pub record Printing (log : List ℕ) (h : Head) (before : List ℕ) (from first : ℕ) (out : List ℕ) (at next k : ℕ) : Type 0 where
  pub on : first + k ≤ next
  pub inside : next ≤ length log
  pub short : at ≤ from + 128 * k
  pub rest : StillToPut out at (flat_map line_of (commands_from (length log - k) log (body_cursor h next k))) before from
      (flat_map line_of (commands_from (length log) log (body_cursor h first 0)))

pub printing_first : (log : List ℕ) (h : Head) (out : List ℕ) (from first : ℕ) → first ≤ length log → Printing log h out from first out from first 0
printing_first log h out from first inside =
    let e : length log - 0 ≡ length log = omega arith in
    record { on = omega arith; inside = inside; short = omega arith; rest = rw e (rest_first _ _ _) }

module _ {log : List ℕ} {h : Head} {before : List ℕ} {from first : ℕ} {out : List ℕ} {at next k : ℕ} (p : Printing log h before from first out at next k)
    (ok : head_refusal h ≡ 0) (due : k < head_blocks h) (begun : 0 < first) (command : Command) (is : command ≡ body_command log next h k) where
  abbrev here : Cursor
  here = body_cursor h next k

  called : step_at log here ≡ body_step log next h k
  called = body_is log next h k ok (omega arith) p.inside

  handed : (body_step log next h k).command ≡ command
  handed = step_command (body_command log next h k) next (Body h (k + 1)) ∙ sym is

  -- a command that is not refused, where a block is due
  block_step : is_refused command ≡ false → step_at log here ≡ command_step command next (Body h (k + 1))
  block_step e = go (step_at log here) (kinds log here) (ap (λ (s : WalkStep). s.command) called ∙ handed)
    where
      go : (s : WalkStep) → Kind log here s → s.command ≡ command → s ≡ command_step command next (Body h (k + 1))
      go s (Cases.refused number place a b w) q = cc
      go s (Cases.head f t r) q = cc
      go s (Cases.block h' k' f r g t o u) q =
          let eh : h' ≡ h = cc in
          let ek : k' ≡ k = cc in
          rw (← q, eh, ek)
      go s (Cases.still h' k' f r g t) q =
          let eh : h' ≡ h = cc in
          let ek : k' ≡ k = cc in
          rw (← q, eh, ek)
      go s (Cases.end h' k' f r g t n) q =
          let full : k ≡ head_blocks h = cc in
          absurd (omega arith)

  -- it goes on inside the log
  pub block_goes_on : is_refused command ≡ false → (next < next + command_size command) × (next + command_size command ≤ length log)
  block_goes_on e = rw (block_step e) at (goes_on log here (step_at log here) (kinds log here) (ap (λ (s : WalkStep). is_refused s.command) (block_step e) ∙ e))

  module _ {m : List ℕ} {to : ℕ} (w : Put out at (line_of command) m to) where
    pub printing_more : is_refused command ≡ false → to ≤ at + 128 → (size : ℕ) → size ≡ command_size command
        → Printing log h before from first m to (next + size) (k + 1)
    printing_more e l size f =
        let n : length log - k - 1 ≡ length log - (k + 1) = omega (arith, p.on, p.inside) in
        let s = command_step command next (Body h (k + 1)) in
        let o = block_goes_on e in
        record {
          on = omega (arith, p.on, o.0, f);
          inside = omega (arith, o.1, f);
          short = omega (arith, p.short);
          rest =
              rw (n, ← f) at
              (turn line_of (length log - k) log here s false (omega (arith, p.on, p.inside)) (sym (block_step e)) (sym e) p.rest w);
        }

    pub printing_last : is_refused command ≡ true → Put before from (flat_map line_of (commands_from (length log) log (body_cursor h first 0))) m to
    unfolding flat_map
    printing_last e =
        let refused = sym (ap is_refused handed ∙ e) in
        let some : 0 < length log - k = omega (arith, p.on, p.inside) in
        rest_last (turn line_of (length log - k) log here (body_step log next h k) true some (sym called) refused p.rest (rw handed w))

-- ---- the first line, from what the first call answered

module _ (log : List ℕ) (s : WalkStep) (e : s ≡ step_at log start_cursor) where
  first_line : (t : Bool) → t ≡ is_refused s.command
      → flat_map line_of (walk log) ≡ line_of s.command ++ flat_map line_of (cond t [] (commands_from (length log) log s.next))
  unfolding walk flat_map
  first_line t f =
      let n : length log + 1 - 1 ≡ length log = omega arith in
      ap (flat_map line_of) (rw n at (commands_next (length log + 1) log start_cursor s t (omega arith) e f))

  -- a refusal's line is all
  pub walk_refused : {out m : List ℕ} {to : ℕ} → is_refused s.command ≡ true → Put out 0 (line_of s.command) m to
      → Put out 0 (flat_map line_of (walk log)) m to
  unfolding flat_map
  walk_refused r p = rw (first_line true (sym r), append-nil _) p

  -- else it is a head's, and the walk goes on behind it
  module _ (r : is_refused s.command ≡ false) (h : Head) (is : h ≡ command_head s.command) where
    head_step : (head_refusal h ≡ 0) × (command_size (Cmd.Head h) ≤ length log) × (s ≡ command_step (Cmd.Head h) 0 (Body h 0))
    head_step = rw (is, e) (begun log (ap (λ (x : WalkStep). is_refused x.command) (sym e) ∙ r))

    pub walk_begun : (0 < s.next.at) × (s.next.at ≤ length log) × (head_refusal h ≡ 0)
    walk_begun =
        let n = ap (λ (x : WalkStep). x.next.at) head_step.2 in
        (omega (arith, n), omega (arith, n, head_step.1), head_step.0)

    pub walk_more : {out m l : List ℕ} {at to : ℕ} → Put out 0 (line_of s.command) m at
        → Put m at (flat_map line_of (commands_from (length log) log (body_cursor h s.next.at 0))) l to → Put out 0 (flat_map line_of (walk log)) l to
    walk_more p q =
        let here : s.next.phase ≡ Body h 0 = ap (λ (x : WalkStep). x.next.phase) head_step.2 in
        let c : body_cursor h s.next.at 0 ≡ s.next = ap (λ (x : Phase). record { at = s.next.at; phase = x }) (sym here) in
        rw (first_line false (sym r)) (put_then p (rw c at q))
