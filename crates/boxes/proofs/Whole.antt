-- Of N 32: four boxes of 16 are a whole block.
--   whole_older   the older block of a candidate; whole_newer: the block itself
use Prim.Native.Nat.{ℕ, ◌+◌, ◌-◌, ◌*◌, ◌/◌, ◌<◌}
use mathlib.Core.Path.{◌≡◌, refl, sym, ap, ap₂, ◌∙◌}
use mathlib.Core.List.{List}
use native.Mathlib.Nat.{mul-add, mul_comm}
use native.Mathlib.Omega.{arith}
use lib.ListN.{get_or}
use Rattle.base.specs.Sum.{sum_to}
use Rattle.frame.specs.Pictures.{pair_of}
use Rattle.frame.specs.declared.SearchBlock.{SearchBlock}
use Rattle.distortion.specs.Blocks.{Block, newer_block, older_block}
use Rattle.search.specs.Exhaustive.{grid_vector}
use Rattle.reach.specs.Reach.{reach, InReach}
use Rattle.pruned_rule.specs.Distance.{square_sum}
use Rattle.pruned_rule.proofs.Finer.{square_in_squares}
use Rattle.boxes.specs.Boxes.{Cut, level_at, own_at, whole_of, Boxed}

two_squares : (f : Block) → square_sum f 2 0 0 ≡ f 0 0 + f 0 1 + (f 1 0 + f 1 1)
unfolding square_sum sum_to
two_squares f = omega arith

-- a whole block of 32 is four squares of 16
four_squares : (a : Block) → square_sum a 32 0 0 ≡ square_sum a 16 0 0 + square_sum a 16 0 1 + (square_sum a 16 1 0 + square_sum a 16 1 1)
four_squares a = square_in_squares a 2 16 0 0 ∙ two_squares (square_sum a 16)

module _ (older newer : List ℕ) (b : SearchBlock) (large : b.setting.n ≡ 32) (boxes : List ℕ) (k : Boxed older newer b boxes) where
  abbrev n : ℕ
  n = b.setting.n

  cut : Cut n 16
  cut = record { exponent = 4; few = omega arith; power = refl; inside = omega arith }

  two : (p : ℕ) → p < 2 → p < n / 16
  two p h = rw large (omega arith)

  pub whole_older : (i j : ℕ) → InReach (reach b) i j
      → whole_of boxes (level_at n 16 + ((n + 32) * (i - (reach b).top) + (j - (reach b).left))) (16 * (n + 32))
      ≡ square_sum (older_block (pair_of older newer b.setting) b.y b.x (grid_vector i j)) 32 0 0
  whole_older i j h =
      ap₂ ◌+◌ (ap₂ ◌+◌ (at 0 0 _ (omega arith) (omega arith) (omega arith)) (at 0 1 _ (omega arith) (omega arith) (omega arith)))
      (ap₂ ◌+◌ (at 1 0 _ (omega arith) (omega arith) (omega (arith, more))) (at 1 1 _ (omega arith) (omega arith) (omega (arith, more))))
      ∙ sym (four_squares _)
    where
      y : ℕ
      y = i - (reach b).top

      x : ℕ
      x = j - (reach b).left

      more : (n + 32) * (y + 16) ≡ (n + 32) * y + 16 * (n + 32)
      more = mul-add (n + 32) y 16 ∙ ap (λ (z : ℕ). (n + 32) * y + z) (mul_comm (n + 32) 16)

      at : (p q u : ℕ) → p < 2 → q < 2 → u ≡ level_at n 16 + ((n + 32) * (y + p * 16) + (x + q * 16))
          → get_or boxes u 0 ≡ square_sum (older_block (pair_of older newer b.setting) b.y b.x (grid_vector i j)) 16 p q
      at p q u hp hq e = ap (λ (z : ℕ). get_or boxes z 0) e ∙ k.older_square i j 16 p q h cut (two p hp) (two q hq)

  pub whole_newer : whole_of boxes (own_at n 16) (16 * n) ≡ square_sum (newer_block (pair_of older newer b.setting) b.y b.x) 32 0 0
  whole_newer =
      ap₂ ◌+◌ (ap₂ ◌+◌ (at 0 0 _ (omega arith) (omega arith) (omega arith)) (at 0 1 _ (omega arith) (omega arith) (omega arith)))
      (ap₂ ◌+◌ (at 1 0 _ (omega arith) (omega arith) (omega arith)) (at 1 1 _ (omega arith) (omega arith) (omega arith)))
      ∙ sym (four_squares _)
    where
      at : (p q u : ℕ) → p < 2 → q < 2 → u ≡ own_at n 16 + (n * (p * 16) + q * 16)
          → get_or boxes u 0 ≡ square_sum (newer_block (pair_of older newer b.setting) b.y b.x) 16 p q
      at p q u hp hq e = ap (λ (z : ℕ). get_or boxes z 0) e ∙ k.newer_square 16 p q cut (two p hp) (two q hq)
