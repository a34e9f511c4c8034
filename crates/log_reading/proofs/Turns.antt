-- A call of the walker is the first command of what is left of the walk. So how the rest ends is how the whole ends, and the blocks of the rest are
-- those still to be stored.
use Prim.Native.Nat.{ℕ, ◌+◌, ◌-◌, ◌*◌, ◌≤◌, ◌<◌}
use mathlib.Core.Path.{◌≡◌, refl, ◌∙◌}
use mathlib.Core.List.{List, [], ◌∷◌, ◌++◌, flat_map}
use mathlib.Core.Bool.{Bool, true, false, cond}
use native.Mathlib.Omega.{arith}
use borrow.Author.Tests.{eqb-true, ltb-false}
use lib.Dec.{ltb, eqb}
use lib.IntN.{ℤ}
use lib.ListN.{length, drop, length-append}
use Rattle.log_head.specs.declared.Head.{Head}
use Rattle.log_cursor.specs.declared.Cursor.{Cursor}
use Rattle.log_command.specs.declared.Command.{Command}
use Rattle.log_cursor.specs.declared.WalkStep.{WalkStep}
use Rattle.log_command.specs.Commands.{command_number, is_refused, block_values}
use Rattle.log_head.specs.Heads.{head_blocks, largest_logged, entry}
use Rattle.put.specs.Put.{StillToPut, rest_last, put_over, over_fits}
use Rattle.log_cursor.specs.Step.{step_at, start_cursor}
use Rattle.log_cursor.specs.Walk.{commands_from, commands_next, walk, log_head, last_of}
use Rattle.log_walks.specs.Cases.{Kind, kinds}
use Rattle.log_walks.specs.Cases as Cases
use Rattle.log_walks.proofs.Ends.{last_after, refused_number, ends}
use Rattle.log_walks.proofs.Accepted.{field_length}
use Rattle.log_reading.specs.Reading.{field_of, refused_read, refused_by, accepted_read, log_read}
use Rattle.log_reading.specs.Storing.{stored_distortion}

module _ (left : ℕ) (log : List ℕ) (c : Cursor) (s : WalkStep) (t : Bool) (some : 0 < left) (e : s ≡ step_at log c) (f : t ≡ is_refused s.command) where
  -- how it ends
  pub end_turn : (x whole : Command) → last_of (x ∷ commands_from left log c) ≡ whole
      → last_of (s.command ∷ cond t [] (commands_from (left - 1) log s.next)) ≡ whole
  unfolding last_of
  end_turn x whole h = rw (commands_next left log c s t some e f) at h

-- all is stored
pub stored : {list before whole : List ℤ} {at : ℕ} → StillToPut list at [] before 0 whole → length whole ≤ length before
    → list ≡ whole ++ drop (length whole) before
stored {before} {whole} r fits = (put_over (rest_last r)).0 ∙ over_fits whole before fits

-- the numbers of a call's command are among those of the rest
pub store_room : (left : ℕ) (log : List ℕ) (c : Cursor) (s : WalkStep) → 0 < left → s ≡ step_at log c
    → length (block_values s.command) ≤ length (field_of (commands_from left log c))
unfolding field_of flat_map
store_room left log c s some e =
    let rest = cond (is_refused s.command) [] (commands_from (left - 1) log s.next) in
    rw (commands_next left log c s (is_refused s.command) some e refl)
    (omega (arith, length-append (block_values s.command) (flat_map block_values rest)))

-- before the first call
pub end_first : (x : Command) (log : List ℕ) → last_of (x ∷ commands_from (length log + 1) log start_cursor) ≡ last_of (walk log)
unfolding walk
end_first x log = last_after x (length log + 1) log start_cursor (omega arith)

-- ---- a command's distortion

pub step_fits : (log : List ℕ) (c : Cursor) → stored_distortion (step_at log c).command ≤ largest_logged
step_fits log c = go (step_at log c) (kinds log c)
  where
    go : (s : WalkStep) → Kind log c s → stored_distortion s.command ≤ largest_logged
    go s (Cases.refused number place a b w) = omega arith
    go s (Cases.head q t r) = omega arith
    go s (Cases.block h k q r g t o u) = (entry h r k _ _ _ o).most
    go s (Cases.still h k q r g t) = omega arith
    go s (Cases.end h k q r g t n) = omega arith

-- ---- an answer without a refusal

-- the list has room for the blocks
pub roomy : (log : List ℕ) (list : ℕ) → (log_read log list).refusal ≡ 0 → length (field_of (walk log)) ≤ list
unfolding log_read field_of
roomy log list e = go (is_refused begun) refl (ltb list (3 * head_blocks h)) refl (eqb (command_number ended) 34) refl e
  where
    begun : Command
    begun = (step_at log start_cursor).command

    ended : Command
    ended = last_of (walk log)

    h : Head
    h = log_head log

    go : (a : Bool) → is_refused begun ≡ a → (b : Bool) → ltb list (3 * head_blocks h) ≡ b → (t : Bool) → eqb (command_number ended) 34 ≡ t
        → (cond a (refused_by begun) (cond b (refused_read 10 (step_at log start_cursor).next.at) (cond t (accepted_read h) (refused_by ended)))).refusal ≡ 0
        → length (flat_map block_values (walk log)) ≤ list
    go true ea b eb t et e = absurd (omega (arith, refused_number log start_cursor ea))
    go false ea true eb t et e = absurd (omega arith)
    go false ea false eb true et e = omega (arith, field_length log (eqb-true (command_number ended) 34 et), ltb-false list (3 * head_blocks h) eb)
    go false ea false eb false et e = absurd (omega (arith, (ends log).least))
