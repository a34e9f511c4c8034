-- Reading is accepted just where the walk ends with 34 and the list is long enough, and then answers the head and stores the walk's field: no refusal has
-- the number 0.
use Prim.Native.Nat.{ℕ, ◌*◌, ◌≤◌}
use mathlib.Core.Path.{◌≡◌, refl}
use mathlib.Core.Bool.{Bool, true, false, cond}
use mathlib.Core.List.{List, ◌++◌}
use native.Mathlib.Omega.{arith}
use borrow.Author.Tests.{ltb-false, eqb-true, le-ltb, eq-eqb}
use lib.Dec.{ltb, eqb}
use lib.IntN.{ℤ}
use lib.ListN.{length, drop}
use Rattle.log_command.specs.declared.Command.TheVariants as Cmd
use Rattle.log_command.specs.Commands.{command_number, is_refused}
use Rattle.log_head.specs.Heads.{head_blocks}
use Rattle.log_cursor.specs.Step.{step_at, start_cursor}
use Rattle.log_cursor.specs.Walk.{walk, log_head, last_of}
use Rattle.log_reading.specs.declared.LogRead.{LogRead}
use Rattle.log_reading.specs.Reading.{field_of, refused_read, refused_by, accepted_read, log_read, read_result, read_log}
use Rattle.log_walks.proofs.Accepted.{walk_begins, accepted_log}
use Rattle.log_walks.proofs.Ends.{refused_number, ends}

pub record Accepted (log : List ℕ) (list : List ℤ) : Type 0 where
  pub ended : command_number (last_of (walk log)) ≡ 34
  pub room : 3 * head_blocks (log_head log) ≤ length list

module _ (log : List ℕ) (list : List ℤ) where
  pub accepted : (read_log log list).answer.refusal ≡ 0 → Accepted log list
  unfolding read_log log_read
  accepted =
      go
      (is_refused (step_at log start_cursor).command) refl
      (ltb (length list) (3 * head_blocks (log_head log))) refl
      (eqb (command_number (last_of (walk log))) 34) refl
    where
      go : (a : Bool) → is_refused (step_at log start_cursor).command ≡ a → (b : Bool) → ltb (length list) (3 * head_blocks (log_head log)) ≡ b
          → (c : Bool) → eqb (command_number (last_of (walk log))) 34 ≡ c
          → (cond {A = LogRead} a (refused_by (step_at log start_cursor).command)
          (cond b (refused_read 10 (step_at log start_cursor).next.at) (cond c (accepted_read (log_head log)) (refused_by (last_of (walk log)))))).refusal ≡ 0
          → Accepted log list
      go true e b f c g z = absurd (omega (arith, refused_number log start_cursor e))
      go false e true f c g z = absurd (omega arith)
      go false e false f true g z = record { ended = eqb-true _ _ g; room = ltb-false _ _ f }
      go false e false f false g z = absurd (omega (arith, (ends log).least))

  -- the first call handed out a head
  begins : command_number (last_of (walk log)) ≡ 34 → is_refused (step_at log start_cursor).command ≡ false
  begins e =
      let a = accepted_log log e in
      let q : (step_at log start_cursor).command ≡ Cmd.Head (log_head log) = cc (walk_begins log, a.whole) in
      rw q

  pub reads : Accepted log list → read_log log list ≡ read_result (accepted_read (log_head log)) (field_of (walk log) ++ drop (length (field_of (walk log))) list)
  unfolding read_log log_read
  reads p =
      rw (
        begins p.ended,
        le-ltb (length list) (3 * head_blocks (log_head log)) p.room,
        eq-eqb (command_number (last_of (walk log))) 34 p.ended,
      )
