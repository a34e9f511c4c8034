-- Writing is accepted just where 1 3 4 51 5 10 16 19 let it pass, and then writes the log: the verdict and 19, read both ways.
use Prim.Native.Nat.{ℕ, ◌≤◌}
use mathlib.Core.Path.{◌≡◌, refl}
use mathlib.Core.Bool.{Bool, true, false, cond, not}
use mathlib.Core.List.{List, ◌++◌}
use native.Mathlib.Omega.{arith}
use borrow.Author.Tests.{ltb-false, eqb-true, eqb-false, le-ltb}
use lib.Dec.{ltb, eqb}
use lib.IntN.{ℤ}
use lib.ListN.{length, drop}
use Rattle.log_head.specs.declared.Head.{Head}
use Rattle.log_list.specs.Listed.{list_verdict, AllPass}
use Rattle.log_list.proofs.Sound.{verdict_yes, verdict_is}
use Rattle.log_command.specs.Logs.{log_of}
use Rattle.log_writing.specs.Writing.{WriteResult, write_result, refused_write, write_log}

pub record Accepted (h : Head) (list : List ℤ) (buffer : List ℕ) : Type 0 where
  pub pass : AllPass h list
  pub fits : length (log_of h list) ≤ length buffer

module _ (h : Head) (list : List ℤ) (buffer : List ℕ) where
  pub accepted : (write_log h list buffer).answer.refusal ≡ 0 → Accepted h list buffer
  unfolding write_log
  accepted = go (eqb (list_verdict h list).refusal 0) refl (ltb (length buffer) (length (log_of h list))) refl
    where
      go : (a : Bool) → eqb (list_verdict h list).refusal 0 ≡ a → (b : Bool) → ltb (length buffer) (length (log_of h list)) ≡ b
          → (cond {A = WriteResult} (not a) (write_result (refused_write (list_verdict h list).refusal (list_verdict h list).place) buffer)
          (cond b (write_result (refused_write 19 0) buffer)
          (write_result (record { refusal = 0; place = 0; length = length (log_of h list) })
          (log_of h list ++ drop (length (log_of h list)) buffer)))).answer.refusal ≡ 0
          → Accepted h list buffer
      go true e true f z = absurd (omega arith)
      go true e false f z = record { pass = verdict_yes h list (eqb-true _ _ e); fits = ltb-false _ _ f }
      go false e b f z = absurd (eqb-false _ _ e z)

  pub writes : Accepted h list buffer
      → write_log h list buffer
      ≡ write_result (record { refusal = 0; place = 0; length = length (log_of h list) }) (log_of h list ++ drop (length (log_of h list)) buffer)
  unfolding write_log
  writes p = rw (verdict_is h list p.pass, le-ltb (length buffer) (length (log_of h list)) p.fits)
