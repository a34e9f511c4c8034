-- A call that is not refused goes on by a byte at least and stays in the log: so a walk meets a refusal within length + 1 calls, and stays refused.
use Prim.Native.Nat.{ℕ, zero, suc, ◌+◌, ◌≤◌, ◌<◌}
use mathlib.Core.Path.{◌≡◌, refl, ap}
use mathlib.Core.List.{List, [], ◌∷◌}
use mathlib.Core.Bool.{Bool, true, false, cond}
use native.Mathlib.Omega.{arith}
use lib.Dec.{ltb}
use lib.ListN.{length}
use Rattle.log_cursor.specs.declared.Cursor.{Cursor}
use Rattle.log_command.specs.declared.Command.{Command}
use Rattle.log_command.specs.declared.Command.TheVariants as Cmd
use Rattle.log_cursor.specs.declared.WalkStep.{WalkStep}
use Rattle.log_command.specs.Commands.{command_number, is_refused}
use Rattle.log_cursor.specs.Step.{refused_step, step_at}
use Rattle.log_cursor.specs.Walk.{commands_from, walk, last_of}
use Rattle.log_walks.specs.Cases.{Kind, refused, head, block, still, end, kinds}

-- where the walker stands after a command
pub goes_on : (log : List ℕ) (c : Cursor) (s : WalkStep) → Kind log c s → is_refused s.command ≡ false
    → (c.at < s.next.at) × (s.next.at ≤ length log)
goes_on log c s (refused number place a b w) e = let z : ◌≡◌ {A = ℕ} 0 1 = cc in absurd (omega arith)
goes_on log c s (head p t r) e = (omega arith, t.room)
goes_on log c s (block h k p r g t o q) e = (omega arith, t.room)
goes_on log c s (still h k p r g t) e = (omega arith, t.room)
goes_on log c s (end h k p r g t n) e = (omega arith, t.room)

-- a refusal's number is 13 or more
pub refused_number : (log : List ℕ) (c : Cursor) → is_refused (step_at log c).command ≡ true → 13 ≤ command_number (step_at log c).command
refused_number log c = go (step_at log c) (kinds log c)
  where
    go : (s : WalkStep) → Kind log c s → is_refused s.command ≡ true → 13 ≤ command_number s.command
    go s (refused number place a b w) e = w.least
    go s (head p t r) e = let z : ◌≡◌ {A = ℕ} 0 1 = cc in absurd (omega arith)
    go s (block h k p r g t o q) e = let z : ◌≡◌ {A = ℕ} 0 1 = cc in absurd (omega arith)
    go s (still h k p r g t) e = let z : ◌≡◌ {A = ℕ} 0 1 = cc in absurd (omega arith)
    go s (end h k p r g t n) e = let z : ◌≡◌ {A = ℕ} 0 1 = cc in absurd (omega arith)

-- "34 walker called after a refusal": it answers 34 and stands where it stood, and so at every further call
pub over_stays : (log : List ℕ) (c : Cursor) → is_refused (step_at log c).command ≡ true
    → step_at log (step_at log c).next ≡ record { command = Cmd.Refused 34 0; next = (step_at log c).next }
unfolding step_at
over_stays log c = go (step_at log c) (kinds log c)
  where
    same : (t : Bool) → cond t (refused_step c.at 34 0) (refused_step c.at 34 0) ≡ refused_step c.at 34 0
    same true = refl
    same false = refl

    go : (s : WalkStep) → Kind log c s → is_refused s.command ≡ true → step_at log s.next ≡ record { command = Cmd.Refused 34 0; next = s.next }
    go s (refused number place a b w) e = same (ltb (length log) c.at)
    go s (head p t r) e = cc
    go s (block h k p r g t o q) e = cc
    go s (still h k p r g t) e = cc
    go s (end h k p r g t n) e = cc

-- the last of a walk that goes on
pub last_after : (x : Command) (calls : ℕ) (log : List ℕ) (c : Cursor) → 0 < calls → last_of (x ∷ commands_from calls log c) ≡ last_of (commands_from calls log c)
unfolding last_of commands_from
last_after x zero log c h = absurd (omega arith)
last_after x (suc calls) log c h = refl

-- how so many calls end
pub record Refusal (x : Command) : Type 0 where
  pub said : is_refused x ≡ true
  pub least : 13 ≤ command_number x

pub ends_from : (calls : ℕ) (log : List ℕ) (c : Cursor) → length log < calls + c.at → Refusal (last_of (commands_from calls log c))
unfolding commands_from last_of
ends_from zero log c h = record { said = refl; least = omega arith }
ends_from (suc calls) log c h = go (ends_from calls log (step_at log c).next) (is_refused (step_at log c).command) refl
  where
    go : (length log < calls + (step_at log c).next.at → Refusal (last_of (commands_from calls log (step_at log c).next))) → (t : Bool)
        → is_refused (step_at log c).command ≡ t → Refusal (last_of ((step_at log c).command ∷ cond t [] (commands_from calls log (step_at log c).next)))
    go rest true e = record { said = e; least = refused_number log c e }
    go rest false e =
        let on = goes_on log c (step_at log c) (kinds log c) e in
        rw (last_after (step_at log c).command calls log (step_at log c).next (omega arith)) (rest (omega arith))

-- so length + 1 calls from the start always do
pub ends : (log : List ℕ) → Refusal (last_of (walk log))
unfolding walk
ends log = ends_from (length log + 1) log _ (omega arith)

-- and more calls say no more
pub enough : (calls more : ℕ) (log : List ℕ) (c : Cursor) → c.at ≤ length log → length log < calls + c.at → length log < more + c.at
    → commands_from calls log c ≡ commands_from more log c
unfolding commands_from
enough zero more log c i h g = absurd (omega arith)
enough (suc calls) zero log c i h g = absurd (omega arith)
enough (suc calls) (suc more) log c i h g = go (enough calls more log (step_at log c).next) (is_refused (step_at log c).command) refl
  where
    go : ((step_at log c).next.at ≤ length log → length log < calls + (step_at log c).next.at → length log < more + (step_at log c).next.at
        → commands_from calls log (step_at log c).next ≡ commands_from more log (step_at log c).next) → (t : Bool) → is_refused (step_at log c).command ≡ t
        → (step_at log c).command ∷ cond t [] (commands_from calls log (step_at log c).next)
        ≡ (step_at log c).command ∷ cond t [] (commands_from more log (step_at log c).next)
    go rest true e = refl
    go rest false e =
        let on = goes_on log c (step_at log c) (kinds log c) e in
        ap (◌∷◌ (step_at log c).command) (rest on.1 (omega arith) (omega arith))
