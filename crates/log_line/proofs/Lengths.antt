-- How long a command's line is: a still block's has 6 bytes, every other at most 6 a byte of the command, a refusal's at most 20.
--   Short text n                 the text has at most n bytes
--   head_line .. still_line      how long a command's line is
use Prim.Native.Nat.{ℕ, suc, ◌+◌, ◌≤◌, ◌<◌}
use native.Mathlib.Omega.{arith}
use mathlib.Core.Bool.{Bool, true, false, cond}
use mathlib.Core.List.{List, [], ◌∷◌, ◌++◌}
use lib.ListN.{length, length-append}
use lib.Dec.{eqb}
use lib.IntN.{ℤ, pos, negsuc, nat_abs}
use Rattle.put.specs.Digits.{digits, decimal, limit, cond_length, digits_length, digits_few}
use Rattle.log_head.specs.declared.Head.{Head}
use Rattle.log_head.specs.Heads.{Headed, Entry}
use Rattle.log_command.specs.declared.Command.TheVariants as Cmd
use Rattle.log_command.specs.Commands.{carries}
use Rattle.log_line.specs.Line.{number_text, spaced, end_word, refused_word, at_word, worded, line_of}

pub record Short (text : List ℕ) (n : ℕ) : Type 0 where
  pub most : length text ≤ n

both : {x y : List ℕ} {m n : ℕ} → Short x m → Short y n → Short (x ++ y) (m + n)
both {x} {y} a b = record { most = omega (arith, length-append x y, a.most, b.most) }

-- ---- numbers

any_number : (n after : ℕ) → Short (number_text (pos n) after) 21
unfolding number_text
any_number n after = record { most = omega (arith, length-append (decimal n) (after ∷ []), digits_length 20 n) }

-- a number of at most k + 1 digits
few_digits : (k n after : ℕ) → n < limit k → Short (number_text (pos n) after) (k + 2)
unfolding number_text
few_digits k n after h = record { most = omega (arith, length-append (decimal n) (after ∷ []), digits_few k 20 n h) }

few_signed : (k : ℕ) (z : ℤ) (after : ℕ) → nat_abs z < limit k → Short (number_text z after) (k + 3)
unfolding number_text
few_signed k (pos n) after h = record { most = omega (arith, (few_digits k n after h).most) }
few_signed k (negsuc n) after h = record { most = omega (arith, (few_digits k (suc n) after h).most) }

-- ---- lines

pub head_line : (h : Head) → Headed h → Short (line_of (Cmd.Head h)) 20
unfolding worded spaced limit
head_line h a =
    both (few_digits 3 h.width 32 (omega (arith, a.fitting.wide)))
    (both (few_digits 3 h.height 32 (omega (arith, a.fitting.high)))
    (both (few_digits 1 h.n 32 (omega (arith, a.size)))
    (both (few_digits 1 h.w 32 (omega (arith, a.window)))
    (last (carries h)))))
  where
    search : (after : ℕ) → Short (number_text (pos h.search) after) 2
    search after = few_digits 0 h.search after (omega (arith, a.searching))

    last : (t : Bool) → Short (spaced (pos h.search ∷ cond t (pos h.measure ∷ []) [])) 4
    last true = both (search 32) (few_digits 0 h.measure 10 (omega (arith, a.measure)))
    last false = record { most = omega (arith, (search 10).most) }

pub block_line : (dy dx : ℤ) (distortion : ℕ) → Entry dy dx (pos distortion) → Short (line_of (Cmd.Block dy dx distortion)) 29
unfolding worded spaced limit
block_line dy dx distortion a =
    both (few_signed 1 dy 32 (omega (arith, a.down))) (both (few_signed 1 dx 32 (omega (arith, a.across))) (any_number distortion 10))

short_end : Short end_word 4
unfolding end_word
short_end = record { most = omega arith }

pub end_line : (blocks : ℕ) → Short (line_of (Cmd.End blocks)) 25
unfolding worded spaced
end_line blocks = both short_end (any_number blocks 10)

short_refused : Short refused_word 8
unfolding refused_word
short_refused = record { most = omega arith }

short_at : Short at_word 3
unfolding at_word
short_at = record { most = omega arith }

pub refused_words : (n place : ℕ) → n ≤ 34 → place ≤ 65536 → Short (worded (Cmd.Refused n place)) 20
unfolding worded spaced limit
refused_words n place h p = both (both (both short_refused (few_digits 1 n 32 (omega arith))) short_at) (few_digits 4 place 10 (omega arith))

pub refused_line : (n place : ℕ) → n ≤ 34 → place ≤ 65536 → Short (line_of (Cmd.Refused n place)) 20
refused_line n place h p =
    record { most = cond_length (eqb n 34) [] (worded (Cmd.Refused n place)) 20 (omega arith) (refused_words n place h p).most }

pub still_line : Short (line_of Cmd.Still) 6
unfolding worded spaced number_text digits
still_line = record { most = omega arith }
