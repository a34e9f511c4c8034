-- What the text of a number is made of.
--   number_below, number_kept   the text of a number below 0, and of another
--   word_more                   one byte more of a word
--   still_number                number 3 is a still block's
use Prim.Native.Nat.{ℕ, ◌+◌, ◌<◌}
use native.Mathlib.Omega.{arith}
use native.Mathlib.Numerals.{add-one}
use mathlib.Core.Bool.{Bool, true, false, cond}
use mathlib.Core.Path.{◌≡◌, refl}
use mathlib.Core.List.{List, [], ◌∷◌}
use lib.ListN.{length, take, get_or}
use lib.Seq.{take-suc}
use lib.IntN.{ℤ, pos, negsuc, nat_abs}
use Rattle.signed.specs.Int.{dn}
use Rattle.put.specs.Put.{Put, put_then}
use Rattle.log_command.specs.declared.Command.{Command}
use Rattle.log_command.specs.declared.Command.TheVariants as Cmd
use Rattle.log_command.specs.Commands.{carries, is_long, command_number, is_refused}
use Rattle.log_line.specs.Line.{number_text}

pub number_below : (z : ℤ) (after : ℕ) → 0 < dn z → number_text z after ≡ 45 ∷ number_text (pos (nat_abs z)) after
unfolding number_text
number_below (pos n) after h = absurd (omega arith)
number_below (negsuc n) after h = refl

pub number_kept : (z : ℤ) (after : ℕ) → dn z ≡ 0 → number_text z after ≡ number_text (pos (nat_abs z)) after
unfolding number_text
number_kept (pos n) after h = refl
number_kept (negsuc n) after h = absurd (omega arith)

pub word_more : {l m n : List ℕ} {i j k : ℕ} (word : List ℕ) (e : ℕ) → e < length word → Put l i (take e word) m j → Put m j (get_or word e 0 ∷ []) n k
    → Put l i (take (e + 1) word) n k
word_more word e h a b = rw (add-one, take-suc word e 0) (put_then a b)

-- neither of two numbers is 3
neither : {m n : ℕ} (t : Bool) → (m ≡ 3 → ⊥) → (n ≡ 3 → ⊥) → cond t m n ≡ 3 → ⊥
neither true a b e = a e
neither false a b e = b e

-- a command that is no refusal and has number 3
pub still_number : (c : Command) → is_refused c ≡ false → command_number c ≡ 3 → c ≡ Cmd.Still
still_number (Cmd.Head h) e n = absurd (neither (carries h) (λ m. omega arith) (λ m. omega arith) n)
still_number (Cmd.Block dy dx d) e n = absurd (neither (is_long d) (λ m. omega arith) (λ m. omega arith) n)
still_number Cmd.Still e n = refl
still_number (Cmd.End b) e n = absurd (omega arith)
still_number (Cmd.Refused r p) e n = cc
