-- The walk through the block that a frame begins with, column by column: the smallest and the largest so far, of a column's pels and of all columns.
--   first_block                        where the pels stand; pair_inside: two rows more lie inside
--   Seen                               the smallest of f and the largest of g, as far as the walk has come
--   seen_first, seen_more, seen_two    before the first, with one more and with two; seen_last: after the last column
use Prim.Native.Nat.{ℕ, ◌+◌, ◌*◌, ◌/◌, ◌≤◌, ◌<◌, max, min}
use mathlib.Core.Path.{◌≡◌, refl}
use mathlib.Core.List.{List}
use native.Mathlib.Nat.{zero-add}
use native.Mathlib.Numerals.{add-one}
use native.Mathlib.Omega.{arith}
use lib.Dec.{leb}
use lib.ListN.{get_or}
use Rattle.base.specs.Index.{row_next, row_fits}
use Rattle.distortion.specs.Blocks.{Block, block_at}
use Rattle.voter.specs.Voter.{largest_to, smallest_to, largest, smallest, is_voter}
use Rattle.voter.proofs.Extremes.{largest_turned, smallest_turned}

-- the block that a frame begins with: the pel at row i and column j stands at i × width + j
pub first_block : (frame : List ℕ) (width i j p : ℕ) → p ≡ i * width + j → get_or frame p 0 ≡ block_at frame width 0 0 i j
first_block frame width i j p e = rw (e, zero-add, zero-add)

pub pair_inside : (n width pels i : ℕ) → n * width + n ≤ pels + width → i < n / 2 → 2 * i * width + width + n ≤ pels
pair_inside n width pels i room h =
    omega (arith, row_fits (2 * i + 1) n width (omega arith), row_next (2 * i) width)

module _ (f g : ℕ → ℕ) where
  pub record Seen (k low high : ℕ) : Type 0 where
    pub low_is : low ≡ smallest_to f k
    pub high_is : high ≡ largest_to g k
    pub low_small : low ≤ 255
    pub high_small : high ≤ 255

  pub seen_first : Seen 0 255 0
  unfolding largest_to smallest_to
  seen_first = record { low_is = refl; high_is = refl; low_small = omega arith; high_small = omega arith }

  pub seen_more : (k low high x y : ℕ) → Seen k low high → x ≡ f k → y ≡ g k → y ≤ 255 → Seen (k + 1) (min low x) (max high y)
  unfolding largest_to smallest_to
  seen_more k low high x y s e h small = record {
    low_is = rw (add-one, e, s.low_is);
    high_is = rw (add-one, h, s.high_is);
    low_small = omega (arith, s.low_small);
    high_small = omega (arith, s.high_small);
  }

min_assoc : (a b c : ℕ) → min a (min b c) ≡ min (min a b) c
min_assoc a b c = omega arith

max_assoc : (a b c : ℕ) → max a (max b c) ≡ max (max a b) c
max_assoc a b c = omega arith

-- two numbers more, which are held against each other first
pub seen_two : (f : ℕ → ℕ) (k low high a b : ℕ) → Seen f f k low high → a ≡ f k → b ≡ f (k + 1) → a ≤ 255 → b ≤ 255
    → Seen f f (k + 2) (min low (min a b)) (max high (max a b))
seen_two f k low high a b s e h a_small b-small =
    let t = seen_more f f (k + 1) _ _ b b (seen_more f f k low high a a s e e a_small) h h b-small in
    let next : k + 1 + 1 ≡ k + 2 = omega arith in
    rw (min_assoc low a b, max_assoc high a b) (rw next at t)

-- a column's pels, and each column's smallest and largest
module _ (n : ℕ) (b : Block) where
  abbrev pub column : ℕ → ℕ → ℕ
  column j i = b i j

  abbrev pub Columns : ℕ → ℕ → ℕ → Type 0
  Columns j low high = Seen (λ j. smallest_to (column j) n) (λ j. largest_to (column j) n) j low high

  pub seen_last : (low high : ℕ) → Columns n low high → leb (low + 8) high ≡ is_voter n b
  unfolding is_voter smallest largest
  seen_last low high s = rw (s.low_is, s.high_is, smallest_turned b n n, largest_turned b n n)
