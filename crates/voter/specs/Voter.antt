-- 02, request 3: "A block votes exactly if its largest newer pel exceeds its smallest by 8 or more."
--   largest_to, smallest_to   the largest and the smallest of the first n numbers; where there are none, 0 and 255, below and above which no pel is
--   largest, smallest       of the pels of an N × N block
--   is_voter                 whether a block votes; voting: whether grid block k of a pair does
--   Framed                  what the code asks: a frame of the setting; Standing: a block that stands wholly inside it
use Rattle.std.specs.Prelude.{ℕ, zero, suc, ◌+◌, ◌*◌, ◌≤◌, max, min, ◌≡◌, Bool, T, leb}
use Rattle.frame.specs.declared.Setting.{Setting}
use Rattle.frame.specs.Pictures.{Pair, Fitting}
use Rattle.frame.specs.Grid.{block_row, block_column}
use Rattle.refusals.specs.Refusals.{block_size_ok}
use Rattle.distortion.specs.Blocks.{Block, newer_block}

unfoldable pub largest_to : (ℕ → ℕ) → ℕ → ℕ
largest_to f zero = 0
largest_to f (suc n) = max (largest_to f n) (f n)

unfoldable pub smallest_to : (ℕ → ℕ) → ℕ → ℕ
smallest_to f zero = 255
smallest_to f (suc n) = min (smallest_to f n) (f n)

unfoldable pub largest : ℕ → Block → ℕ
largest n b = largest_to (λ i. largest_to (b i) n) n

unfoldable pub smallest : ℕ → Block → ℕ
smallest n b = smallest_to (λ i. smallest_to (b i) n) n

unfoldable pub is_voter : ℕ → Block → Bool
is_voter n b = leb (smallest n b + 8) (largest n b)

abbrev pub voting : Pair → ℕ → Bool
voting p k = is_voter p.setting.n (newer_block p (block_row p.setting k) (block_column p.setting k))

pub record Framed (pels : ℕ) (s : Setting) : Type 0 where
  pub fitting : Fitting s
  pub allowed : T (block_size_ok s.n)
  pub whole : pels ≡ s.height * s.width

pub record Standing (pels : ℕ) (s : Setting) (y x : ℕ) : Type 0 where
  pub framed : Framed pels s
  pub down : y + s.n ≤ s.height
  pub across : x + s.n ≤ s.width
