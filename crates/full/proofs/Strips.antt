-- Strips of the copied window: what they hold, and that their distortions are those of the frames.
--   strip_key      what four rows of 16 pels and a place in the order make is the key of that row
--   twice_long     the block copied twice is as long as its array; twice_is: its second copy is as the first
--   key-in-strip   in reach, a strip has the key of that vector
use Prim.Native.Nat.{ℕ, ◌+◌, ◌-◌, ◌*◌, ◌/◌, ◌%◌, ◌<◌, min}
use mathlib.Core.Path.{◌≡◌, sym, ap, ap₂, ◌∙◌}
use mathlib.Core.List.{List, [], append-nil}
use native.Mathlib.Nat.{add_assoc}
use native.Mathlib.Omega.{arith}
use native.Mathlib.Decide.{ℕ_discrete}
use lib.ListN.{length, get_or}
use Rattle.base.specs.Sum.{sum_to_ext, sum_to_group, sum_over_ext}
use Rattle.base.specs.Lists.{stored_long, stored_in, stored_before}
use Rattle.base.specs.Rows.{in_rows_at}
use Rattle.measures.specs.Measures.{Measure, measure_of}
use Rattle.frame.specs.declared.SearchBlock.{SearchBlock}
use Rattle.distortion.specs.Blocks.{row_from, rows_apart, rows_from}
use Rattle.window_copy.specs.Copy.{copied_rows}
use Rattle.reach.specs.Reach.{Standing, reach, InReach}
use Rattle.reach.specs.Keys.{order_code, key_of}
use Rattle.reach.proofs.Candidates.{reach_small}
use Rattle.full.specs.Rows.{window_copy, key_at}
use Rattle.full.specs.Columns.{strip_of, block_twice, Twice, key_in_strip, key_by_column}
use Rattle.full.proofs.Copies.{window_pel, in_frames}

-- rows without gaps are one row
rows_joined : (μ : Measure) (older newer : List ℕ) (a b n m : ℕ) → rows_from μ older newer n a b n m ≡ row_from μ older newer a b (m * n)
unfolding row_from
rows_joined μ older newer a b n m =
    sum_over_ext m n _ _ (λ i j hi hj. ap₂ (λ (p q : ℕ). μ.diff (get_or newer p 0) (get_or older q 0)) (add_assoc a (i * n) j) (add_assoc b (i * n) j))
    ∙ sym (sum_to_group (λ k. μ.diff (get_or newer (a + k) 0) (get_or older (b + k) 0)) m n)

module _ (strip block : List ℕ) (twice : Twice block) where
  -- either copy of the block
  copy_is : (t k : ℕ) → t < 2 → k < 64 → get_or block (64 * t + k) 0 ≡ get_or block (0 + k) 0
  copy_is t k l h = go (ℕ_discrete t 0)
    where
      go : Dec (t ≡ 0) → get_or block (64 * t + k) 0 ≡ get_or block (0 + k) 0
      go (yes e) = rw e
      go (no e) = let f : t ≡ 1 = omega arith in let z : 0 + k ≡ k = omega arith in rw (f, z) (twice k h)

  -- four rows of 16 pels from whichever copy are the block's eight rows of 8
  strip_sum : (μ : Measure) (t b : ℕ) → t < 2 → rows_apart μ strip block 16 16 (64 * t) b 16 4 ≡ rows_from μ strip block 8 0 b 8 8
  unfolding row_from
  strip_sum μ t b l =
      rows_joined μ strip block (64 * t) b 16 4
      ∙ sum_to_ext _ _ 64 (λ k h. ap (λ (v : ℕ). μ.diff v (get_or strip (b + k) 0)) (copy_is t k l h))
      ∙ sym (rows_joined μ strip block 0 b 8 8)

  pub strip_key : (j i least t d code key : ℕ) → t < 2 → d ≡ rows_apart (measure_of 1) strip block 16 16 (64 * t) (8 * i) 16 4 → code ≡ order_code i j
      → key ≡ min least (d * 262144 + code) → key ≡ min least (key_in_strip strip block j i)
  unfolding key_of
  strip_key j i least t d code key l sum order is = is ∙ rw (sum, order, strip_sum (measure_of 1) t (8 * i) l)

-- a pel of a strip
strip_pel : (window : List ℕ) (i j p q : ℕ) → i + p < 40 → q < 8 → get_or (strip_of window j) (8 * i + p * 8 + q) 0 ≡ get_or window (64 * i + j + p * 64 + q) 0
strip_pel window i j p q h l =
    let at : 8 * i + p * 8 + q ≡ (i + p) * 8 + q = omega arith in
    let there : 64 * (i + p) + j + q ≡ 64 * i + j + p * 64 + q = omega arith in
    rw (at, ← there) (rw append-nil at (in_rows_at (λ i c. get_or window (64 * i + j + c) 0) 8 40 (i + p) q [] h l))

module _ (newer : List ℕ) (b : SearchBlock) (block : List ℕ) (block-long : length block ≡ 128) where
  abbrev width : ℕ
  width = b.setting.width

  abbrev here : ℕ
  here = b.y * width + b.x

  abbrev once : List ℕ
  once = copied_rows newer width here 8 block 0 8 8

  once_long : length once ≡ 128
  once_long = stored_long _ 8 block 0 8 8 (omega arith) ∙ block-long

  pub twice_long : length (block_twice newer b block) ≡ 128
  twice_long = stored_long _ 8 once 64 8 8 (omega (arith, once_long)) ∙ once_long

  -- a pel of the first copy, and of the second
  first_pel : (p q : ℕ) → p < 8 → q < 8 → get_or (block_twice newer b block) (0 + p * 8 + q) 0 ≡ get_or newer (here + p * width + q) 0
  first_pel p q hp hq =
      stored_before _ 8 once 64 8 8 (0 + p * 8 + q) 0 (omega (arith, once_long)) (omega arith)
      ∙ stored_in _ 8 block 0 8 8 p q 0 (omega arith) (omega arith) hp hq

  second_pel : (p q : ℕ) → p < 8 → q < 8 → get_or (block_twice newer b block) (64 + p * 8 + q) 0 ≡ get_or newer (here + p * width + q) 0
  second_pel p q hp hq = stored_in _ 8 once 64 8 8 p q 0 (omega (arith, once_long)) (omega arith) hp hq

  pub twice_is : Twice (block_twice newer b block)
  twice_is c h =
      let one : c ≡ 0 + c / 8 * 8 + c % 8 = omega arith in
      let two : 64 + c ≡ 64 + c / 8 * 8 + c % 8 = omega arith in
      ap (λ (k : ℕ). get_or (block_twice newer b block) k 0) two
      ∙ second_pel (c / 8) (c % 8) (omega arith) (omega arith)
      ∙ sym (first_pel (c / 8) (c % 8) (omega arith) (omega arith))
      ∙ ap (λ (k : ℕ). get_or (block_twice newer b block) k 0) (sym one)

  pub key-in-strip : (older : List ℕ) → Standing b → (window : List ℕ) → length window ≡ 4096 → b.setting.n ≡ 8
      → measure_of b.setting.measure ≡ measure_of 1 → (i j : ℕ) → InReach (reach b) i j
      → key_by_column (window_copy older b window) (block_twice newer b block) i j ≡ key_at older newer b i j
  unfolding row_from
  key-in-strip older s window window_long n measure i j h =
      ap (λ (d : ℕ). key_of d i j)
      (sum_over_ext 8 8 _ _ (λ p q hp hq. ap₂ (measure_of 1).diff (first_pel p q hp hq)
      (strip_pel (window_copy older b window) i j p q (omega (arith, reach_small b s i j h)) hq
      ∙ window_pel older b s (omega arith) window window_long i j p q h (omega arith) (omega arith)))
      ∙ ap₂ (λ (μ : Measure) (m : ℕ). rows_from μ older newer width here ((b.y + i - 16) * width + (b.x + j - 16)) m m) (sym measure) (sym n)
      ∙ in_frames older newer b s i j h)
