-- A walk that ends with 34 came to the end command with no byte left: each of its calls had the outcome that the phase allows, so the walk is a head,
-- the grid's blocks and the end, at the offsets at which the log has them.
--   AcceptedFrom   an accepted log from block k at an offset on, with the walk's commands from there
--   Accepted       an accepted log with its walk
--   accepted_log    a walk that ends with 34 is one
use Prim.Native.Nat.{ℕ, zero, suc, ◌+◌, ◌*◌, ◌≤◌, ◌<◌}
use mathlib.Core.Path.{◌≡◌, refl, sym, ap, ◌∙◌}
use mathlib.Core.List.{List, [], ◌∷◌, flat_map}
use mathlib.Core.Bool.{true, false, cond}
use native.Mathlib.Numerals.{add-one}
use native.Mathlib.Omega.{arith}
use borrow.Author.Tests.{le-leb, eq-eqb}
use lib.IntN.{pos}
use lib.ListN.{length}
use Rattle.log_head.specs.declared.Head.{Head}
use Rattle.log_cursor.specs.declared.Phase.TheVariants.{Body, Ended}
use Rattle.log_cursor.specs.declared.Cursor.{Cursor}
use Rattle.log_command.specs.declared.Command.{Command}
use Rattle.log_command.specs.declared.Command.TheVariants as Cmd
use Rattle.log_cursor.specs.declared.WalkStep.{WalkStep}
use Rattle.log_command.specs.Numbers.{be4}
use Rattle.log_command.specs.Commands.{command_number, command_size, command_head, is_refused, block_values}
use Rattle.log_head.specs.Heads.{head_refusal, head_blocks, entry_ok, is_still}
use Rattle.log_cursor.specs.Step.{command_step, standing_ok, step_at, start_cursor}
use Rattle.log_command.specs.Operands.{head_in, block_in, dy_in, dx_in, distortion_in}
use Rattle.log_cursor.specs.Walk.{commands_from, walk, log_head, last_of}
use Rattle.log_walks.specs.Cases.{NoMore, Stands, past, unsound, ended, over, Kind, kinds}
use Rattle.log_walks.specs.Cases as Cases
use Rattle.log_walks.proofs.Ends.{last_after}

pub data AcceptedFrom (log : List ℕ) (h : Head) : ℕ → ℕ → List Command → Type 0 where
  last : {at k : ℕ} → k ≡ head_blocks h → Stands log at (Cmd.End (head_blocks h)) → at + command_size (Cmd.End (head_blocks h)) ≡ length log
      → be4 log (at + 1) ≡ head_blocks h
      → AcceptedFrom log h at k (Cmd.End (head_blocks h) ∷ Cmd.Refused 34 0 ∷ [])
  block : {at k : ℕ} {cs : List Command} → k < head_blocks h → Stands log at (block_in log at)
      → entry_ok h k (dy_in log at) (dx_in log at) (pos (distortion_in log at)) ≡ true → is_still (dy_in log at) (dx_in log at) (pos (distortion_in log at)) ≡ false
      → AcceptedFrom log h (at + command_size (block_in log at)) (k + 1) cs
      → AcceptedFrom log h at k (block_in log at ∷ cs)
  still : {at k : ℕ} {cs : List Command} → k < head_blocks h → Stands log at Cmd.Still → AcceptedFrom log h (at + command_size Cmd.Still) (k + 1) cs
      → AcceptedFrom log h at k (Cmd.Still ∷ cs)

pub record Accepted (log : List ℕ) : Type 0 where
  pub begins : Stands log 0 (Cmd.Head (head_in log 0))
  pub is : log_head log ≡ head_in log 0
  pub ok : head_refusal (log_head log) ≡ 0
  pub commands : List Command
  pub rest : AcceptedFrom log (log_head log) (command_size (Cmd.Head (log_head log))) 0 commands
  pub whole : walk log ≡ Cmd.Head (log_head log) ∷ commands

-- ---- after the end

module _ (log : List ℕ) (at : ℕ) (inside : at ≤ length log) where
  abbrev at_end : Cursor
  at_end = record { at = at; phase = Ended }

  past_end : (calls : ℕ) → 0 < calls → command_number (last_of (commands_from calls log at_end)) ≡ 34
      → (commands_from calls log at_end ≡ Cmd.Refused 34 0 ∷ []) × (length log ≤ at)
  unfolding commands_from last_of
  past_end zero p e = absurd (omega arith)
  past_end (suc calls) p e = go (step_at log at_end) (kinds log at_end) e
    where
      why : NoMore log at_end → length log ≤ at
      why (past l) = omega arith
      why (unsound h k q f) = let z : ◌≡◌ {A = ℕ} 0 1 = cc in absurd (omega arith)
      why (ended q l) = l
      why (over q) = let z : ◌≡◌ {A = ℕ} 0 1 = cc in absurd (omega arith)

      go : (s : WalkStep) → Kind log at_end s
          → command_number (last_of (s.command ∷ cond (is_refused s.command) [] (commands_from calls log s.next))) ≡ 34
          → (s.command ∷ cond (is_refused s.command) [] (commands_from calls log s.next) ≡ Cmd.Refused 34 0 ∷ []) × (length log ≤ at)
      go s (Cases.refused number place a b w) e = ((let q : place ≡ 0 = (w.over e).0 in rw (e, q)), why (w.over e).1)
      go s (Cases.head q t r) e = let z : ◌≡◌ {A = ℕ} 0 1 = cc in absurd (omega arith)
      go s (Cases.block h k q r g t o u) e = let z : ◌≡◌ {A = ℕ} 0 1 = cc in absurd (omega arith)
      go s (Cases.still h k q r g t) e = let z : ◌≡◌ {A = ℕ} 0 1 = cc in absurd (omega arith)
      go s (Cases.end h k q r g t n) e = let z : ◌≡◌ {A = ℕ} 0 1 = cc in absurd (omega arith)

-- ---- among the blocks

module _ (log : List ℕ) (h : Head) (ok : head_refusal h ≡ 0) where
  abbrev body : ℕ → ℕ → Cursor
  body at k = record { at = at; phase = Body h k }

  -- what so many calls from among the blocks are, where the last is refused with 34
  Walked : ℕ → Type 0
  Walked calls =
      (at k : ℕ) → k ≤ head_blocks h → at ≤ length log → length log < calls + at → command_number (last_of (commands_from calls log (body at k))) ≡ 34
      → AcceptedFrom log h at k (commands_from calls log (body at k))

  standing : (k : ℕ) → k ≤ head_blocks h → standing_ok h k ≡ true
  unfolding standing_ok
  standing k l = rw (eq-eqb (head_refusal h) 0 ok, le-leb k (head_blocks h) l)

  not_over : (at k : ℕ) → k ≤ head_blocks h → at ≤ length log → NoMore log (body at k) → ⊥
  not_over at k l m (past q) = omega arith
  not_over at k l m (unsound h' k' q f) =
      let e : standing_ok h k ≡ false = cc in
      let z : ◌≡◌ {A = ℕ} 0 1 = cc (standing k l) in
      omega arith
  not_over at k l m (ended q n) = let z : ◌≡◌ {A = ℕ} 0 1 = cc in omega arith
  not_over at k l m (over q) = let z : ◌≡◌ {A = ℕ} 0 1 = cc in omega arith

  -- one call, and so many more
  module _ (calls at k : ℕ) (l : k ≤ head_blocks h) (m : at ≤ length log) (enough : length log < suc calls + at) where
    abbrev called : WalkStep → List Command
    called s = s.command ∷ cond (is_refused s.command) [] (commands_from calls log s.next)

    -- what comes behind a block of either kind
    after_block : (x : Command) (to : ℕ) (h' : Head) (k' : ℕ) → h' ≡ h → k' ≡ k → k' < head_blocks h' → at < to → to ≤ length log → Walked calls
        → command_number (last_of (x ∷ commands_from calls log (record { at = to; phase = Body h' (k' + 1) }))) ≡ 34
        → (k < head_blocks h) × AcceptedFrom log h to (k + 1) (commands_from calls log (record { at = to; phase = Body h' (k' + 1) }))
    unfolding Walked
    after_block x to h' k' eh ek g on inside walked e =
        let few : k < head_blocks h = rw (← eh, ← ek) g in
        let later = sym (ap command_number (last_after x calls log (body to (k + 1)) (omega arith))) in
        (few, rw (eh, ek) (walked to (k + 1) (omega arith) inside (omega arith) (later ∙ (rw (eh, ek) at e))))

    one_turn : Walked calls → (s : WalkStep) → Kind log (body at k) s → command_number (last_of (called s)) ≡ 34 → AcceptedFrom log h at k (called s)
    unfolding last_of
    one_turn walked s (Cases.refused number place a b w) e = absurd (not_over at k l m (w.over e).1)
    one_turn walked s (Cases.head q t r) e = let z : ◌≡◌ {A = ℕ} 0 1 = cc in absurd (omega arith)
    one_turn walked s (Cases.block h' k' q r g t o u) e =
        let eh : h' ≡ h = cc in
        let ek : k' ≡ k = cc in
        let x = after_block _ (at + command_size (block_in log at)) h' k' eh ek g (omega arith) t.room walked e in
        block x.0 t (rw (eh, ek) at o) u x.1
    one_turn walked s (Cases.still h' k' q r g t) e =
        let eh : h' ≡ h = cc in
        let ek : k' ≡ k = cc in
        let x = after_block _ (at + command_size Cmd.Still) h' k' eh ek g (omega arith) t.room walked e in
        still x.0 t x.1
    one_turn walked s (Cases.end h' k' q r g t n) e =
        let eh : h' ≡ h = cc in
        let ek : k' ≡ k = cc in
        let later = sym (ap command_number (last_after _ calls log _ (omega arith))) ∙ e in
        let x = past_end log (at + command_size (Cmd.End (head_blocks h'))) t.room calls (omega arith) later in
        rw (eh, x.0) (last (rw (eh, ek) at g) (rw eh at t) (omega (arith, x.1, t.room)) (rw eh at n))

  walked_all : (calls : ℕ) → Walked calls
  unfolding Walked commands_from
  walked_all zero at k l m enough e = absurd (omega arith)
  walked_all (suc calls) at k l m enough e = one_turn calls at k l m enough (walked_all calls) (step_at log (body at k)) (kinds log (body at k)) e

-- ---- from the start

-- the first call, and the rest
pub walk_begins : (log : List ℕ)
    → let s = step_at log start_cursor in
    walk log ≡ s.command ∷ cond (is_refused s.command) [] (commands_from (length log) log s.next)
unfolding walk commands_from
walk_begins log = rw add-one

-- a first call that is not refused hands out a head
pub begun : (log : List ℕ) → is_refused (step_at log start_cursor).command ≡ false
    → (head_refusal (log_head log) ≡ 0) × (command_size (Cmd.Head (log_head log)) ≤ length log)
    × (step_at log start_cursor ≡ command_step (Cmd.Head (log_head log)) 0 (Body (log_head log) 0))
begun log = go (step_at log start_cursor) (kinds log start_cursor)
  where
    go : (s : WalkStep) → Kind log start_cursor s → is_refused s.command ≡ false
        → let h = command_head s.command in
        (head_refusal h ≡ 0) × (command_size (Cmd.Head h) ≤ length log) × (s ≡ command_step (Cmd.Head h) 0 (Body h 0))
    go s (Cases.refused number place a b w) e = let z : ◌≡◌ {A = ℕ} 0 1 = cc in absurd (omega arith)
    go s (Cases.head q t r) e = (r, omega (arith, t.room), refl)
    go s (Cases.block h k q r g t o u) e = let z : ◌≡◌ {A = ℕ} 0 1 = cc in absurd (omega arith)
    go s (Cases.still h k q r g t) e = let z : ◌≡◌ {A = ℕ} 0 1 = cc in absurd (omega arith)
    go s (Cases.end h k q r g t n) e = let z : ◌≡◌ {A = ℕ} 0 1 = cc in absurd (omega arith)

pub accepted_log : (log : List ℕ) → command_number (last_of (walk log)) ≡ 34 → Accepted log
unfolding Walked last_of
accepted_log log e =
    go (step_at log start_cursor) (kinds log start_cursor) refl (walk_begins log)
    (ap (λ (cs : List Command). command_number (last_of cs)) (sym (walk_begins log)) ∙ e)
  where
    not_over_yet : NoMore log start_cursor → ⊥
    not_over_yet (past q) = omega arith
    not_over_yet (unsound h k q f) = let z : ◌≡◌ {A = ℕ} 0 1 = cc in omega arith
    not_over_yet (ended q n) = let z : ◌≡◌ {A = ℕ} 0 1 = cc in omega arith
    not_over_yet (over q) = let z : ◌≡◌ {A = ℕ} 0 1 = cc in omega arith

    go : (s : WalkStep) → Kind log start_cursor s → log_head log ≡ command_head s.command
        → walk log ≡ s.command ∷ cond (is_refused s.command) [] (commands_from (length log) log s.next)
        → command_number (last_of (s.command ∷ cond (is_refused s.command) [] (commands_from (length log) log s.next))) ≡ 34 → Accepted log
    go s (Cases.refused number place a b w) i is e = absurd (not_over_yet (w.over e).1)
    go s (Cases.head q t r) i is e =
        let h = head_in log 0 in
        let from = command_size (Cmd.Head h) in
        let z : 0 + from ≡ from = omega arith in
        record {
          begins = t;
          is = i;
          ok = rw i r;
          commands = commands_from (length log) log (body log h r from 0);
          rest =
              rw i
              (walked_all log h r (length log) from 0 (omega arith) (rw z at t.room) (omega arith)
              (sym (ap command_number (last_after _ (length log) log (body log h r from 0) (omega arith))) ∙ (rw z at e)));
          whole = rw i (rw z at is);
        }
    go s (Cases.block h k q r g t o u) i is e = let z : ◌≡◌ {A = ℕ} 0 1 = cc in absurd (omega arith)
    go s (Cases.still h k q r g t) i is e = let z : ◌≡◌ {A = ℕ} 0 1 = cc in absurd (omega arith)
    go s (Cases.end h k q r g t n) i is e = let z : ◌≡◌ {A = ℕ} 0 1 = cc in absurd (omega arith)

-- ---- how long its field is

rest_values : {log : List ℕ} {h : Head} {at k : ℕ} {cs : List Command} → AcceptedFrom log h at k cs → length (flat_map block_values cs) + 3 * k ≡ 3 * head_blocks h
unfolding flat_map
rest_values (last e t f n) = omega arith
rest_values (block l t o u rest) = omega (arith, rest_values rest)
rest_values (still l t rest) = omega (arith, rest_values rest)

pub field_length : (log : List ℕ) → command_number (last_of (walk log)) ≡ 34 → length (flat_map block_values (walk log)) ≡ 3 * head_blocks (log_head log)
unfolding flat_map
field_length log e = let a = accepted_log log e in rw a.whole (omega (arith, rest_values a.rest))
