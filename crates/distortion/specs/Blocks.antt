-- 01, "Pictures, blocks, vectors": "Distortion is the sum of absolute pel differences [...]; at most 255 × N²." It is the mean absolute error of
-- Ghanbari's paper, its formula (2), without the division by N². 02, request 1: "the sum of squared differences beside the absolute sum", at most
-- "65,025 × N²". Both are one definition, for every N and over every measure of the differences.
--   Block         a block: the pel at a row and a column, counted from the block's corner
--   block_at       the block of a frame that stands at a row and a column
--   distortion_by  the distortion of two N × N blocks by a measure
--   measure_in     the measure of a pair
--   distortion    of a pair: the newer block at (y, x) against the older block at (y + dy, x + dx)
--   row_from       a row's share of it, rows_from: of several rows, rows_apart: of rows that begin otherwise far apart in the two frames
--   partial_by     their partial distortion: the sum at the end of row m, rows counted from 1
--   capped        a distortion under a ceiling. 02, request 5: "up to it, the distortion comes back; beyond it, only 'over'"
--   rows_up_to      a distortion as far as a ceiling goes: sum_up_to of its rows, four at a time
--   UpTo          what such a sum tells of the whole; BlockSum: of a block, that sum and what it tells
--   kernel_of      which code measures a block, one number for N and the measure; size_by and measure_by: back
use Prim.Native.Nat.{ℕ, zero, suc, ◌+◌, ◌*◌, ◌/◌, ◌%◌, ◌≤◌, ◌<◌}
use Rattle.std.proofs.Math.Path.{◌≡◌, refl, ap₂}
use Rattle.std.proofs.Common.{sym, ap, ◌∙◌, add-suc, add-mul, mul-le-mul, mul-le-mul_right, add-one}
use Rattle.std.specs.Prelude.{Bool, List, T, eqb, length, get_or, Option, Some, None}
use Rattle.std.proofs.Math.Bool.{true, false, cond}
use Rattle.std.proofs.Math.Nat.{add-zero}
use native.Mathlib.Omega.{arith}
use Rattle.std.proofs.Math.Dec.{leb}
use Rattle.std.proofs.Math.Decide.{ℕ_discrete}
use borrow.Author.Tests.{leb-true, leb-false, le-leb, lt-leb, eq-eqb, ne_eqb}
use Rattle.base.specs.Sum.{sum_to, sum_to_none, sum_to_more, sum_over, sum_over_ext, sum_over_bound}
use Rattle.base.specs.Index.{row_fits}
use Rattle.measures.specs.Measures.{Measure, measure_of, squares, measure_other, most_small, pel_most}
use Rattle.order.specs.declared.Vector.{Vector}
use Rattle.frame.specs.declared.Setting.{Setting}
use Rattle.frame.specs.Pictures.{Pair, pel, largest_n}
use Rattle.frame.specs.Candidates.{older_row, older_column}
use Rattle.refusals.specs.Refusals.{block_size_ok, block_size, Placed}

abbrev pub Block : Type 0
Block = ℕ → ℕ → ℕ

abbrev pub block_at : List ℕ → ℕ → ℕ → ℕ → Block
block_at frame width y x i j = pel frame width (y + i) (x + j)

unfoldable pub distortion_by : Measure → ℕ → Block → Block → ℕ
distortion_by μ n a b = sum_over n n (λ i j. μ.diff (a i j) (b i j))

unfoldable pub partial_by : Measure → ℕ → Block → Block → ℕ → ℕ
partial_by μ n a b m = sum_over m n (λ i j. μ.diff (a i j) (b i j))

unfoldable pub capped : ℕ → ℕ → Option ℕ
capped ceiling d = cond (leb d ceiling) (Some d) None

abbrev pub newer_block : Pair → ℕ → ℕ → Block
newer_block p y x = block_at p.newer p.setting.width y x

abbrev pub older_block : Pair → ℕ → ℕ → Vector → Block
older_block p y x v = block_at p.older p.setting.width (older_row y v) (older_column x v)

abbrev pub measure_in : Pair → Measure
measure_in p = measure_of p.setting.measure

unfoldable pub distortion : Pair → ℕ → ℕ → Vector → ℕ
distortion p y x v = distortion_by (measure_in p) p.setting.n (newer_block p y x) (older_block p y x v)

-- n pels of the newer frame from place a on, against n pels of the older frame from place b on
unfoldable pub row_from : Measure → List ℕ → List ℕ → ℕ → ℕ → ℕ → ℕ
row_from μ older newer a b n = sum_to (λ j. μ.diff (get_or newer (a + j) 0) (get_or older (b + j) 0)) n

-- m such rows, the newer ones `across` pels apart and the older ones `width` pels
abbrev pub rows_apart : Measure → List ℕ → List ℕ → ℕ → ℕ → ℕ → ℕ → ℕ → ℕ → ℕ
rows_apart μ older newer across width a b n m = sum_to (λ i. row_from μ older newer (a + i * across) (b + i * width) n) m

-- m such rows, one below the other in both
abbrev pub rows_from : Measure → List ℕ → List ℕ → ℕ → ℕ → ℕ → ℕ → ℕ → ℕ
rows_from μ older newer width a b n m = rows_apart μ older newer width width a b n m

-- f 0 + f 1 + .. + f (n - 1), but nothing is added once the sum has passed the ceiling
unfoldable pub sum_up_to : ℕ → (ℕ → ℕ) → ℕ → ℕ
sum_up_to ceiling f zero = 0
sum_up_to ceiling f (suc n) =
    let s = sum_up_to ceiling f n in
    cond (leb s ceiling) (s + f n) s

-- pieces of four rows of n pels, piece g beginning at place `at g` of both blocks, as far as the ceiling goes
abbrev pub pieces_up_to : Measure → ℕ → List ℕ → List ℕ → ℕ → ℕ → ℕ → ℕ → (ℕ → ℕ) → ℕ → ℕ
pieces_up_to μ ceiling older newer width a b n at pieces = sum_up_to ceiling (λ g. rows_from μ older newer width (a + at g) (b + at g) n 4) pieces

-- 4 × groups rows, four at a time
abbrev pub rows_up_to : Measure → ℕ → List ℕ → List ℕ → ℕ → ℕ → ℕ → ℕ → ℕ → ℕ
rows_up_to μ ceiling older newer width a b n groups = pieces_up_to μ ceiling older newer width a b n (λ g. 4 * g * width) groups

-- the rows of a block of 32, four at a time, the left half of them and then the right one
abbrev pub half : ℕ → ℕ → ℕ
half width g = 4 * (g / 2) * width + 16 * (g % 2)

abbrev pub halves_up_to : Measure → ℕ → List ℕ → List ℕ → ℕ → ℕ → ℕ → ℕ → ℕ
halves_up_to μ ceiling older newer width a b pieces = pieces_up_to μ ceiling older newer width a b 16 (half width) pieces

-- a block of N
abbrev pub block_up_to : Measure → ℕ → List ℕ → List ℕ → ℕ → ℕ → ℕ → ℕ → ℕ
block_up_to μ ceiling older newer width a b n =
    cond (leb n 16) (rows_up_to μ ceiling older newer width a b n (n / 4)) (halves_up_to μ ceiling older newer width a b 16)

pub row_first : (μ : Measure) (older newer : List ℕ) (a b : ℕ) → row_from μ older newer a b 0 ≡ 0
unfolding row_from
row_first μ older newer a b = sum_to_none _

pub row-more : (μ : Measure) (older newer : List ℕ) (a b j : ℕ)
    → row_from μ older newer a b (j + 1) ≡ row_from μ older newer a b j + μ.diff (get_or newer (a + j) 0) (get_or older (b + j) 0)
unfolding row_from
row-more μ older newer a b j = sum_to_more _ j

-- 02, request 2, "row times width plus column": as far on from a block's first place as its own row and column say, the frame's row and column say too
pub running_place : (width y x i j : ℕ) → y * width + x + (i * width + j) ≡ (y + i) * width + (x + j)
running_place width y x i j = omega (arith, add-mul y i width)

-- a block's distortion, row by row
module _ (μ : Measure) (older newer : List ℕ) (width y x r c n : ℕ) where
  pub partial_rows : (m : ℕ)
      → partial_by μ n (block_at newer width y x) (block_at older width r c) m ≡ rows_from μ older newer width (y * width + x) (r * width + c) n m
  unfolding partial_by row_from
  partial_rows m =
      sum_over_ext m n _ _
      (λ i j hi hj. ap₂ (λ (k l : ℕ). μ.diff (get_or newer k 0) (get_or older l 0)) (place y x i j) (place r c i j))
    where
      place : (y x i j : ℕ) → (y + i) * width + (x + j) ≡ y * width + x + i * width + j
      place y x i j = omega (arith, running_place width y x i j)

  pub block_rows : distortion_by μ n (block_at newer width y x) (block_at older width r c) ≡ rows_from μ older newer width (y * width + x) (r * width + c) n n
  unfolding distortion_by partial_by
  block_rows = partial_rows n

-- 4 × groups rows of n pels lie inside two frames of so many columns
pub record Rows (older newer : List ℕ) (width n groups : ℕ) : Type 0 where
  pub in_newer : 4 * groups * width + n ≤ length newer + width
  pub in_older : 4 * groups * width + n ≤ length older + width
  pub wide : width ≤ 1024
  pub thin : n ≤ 64
  pub few : groups ≤ 16

-- N rows of N pels, from places a and b on, lie inside two frames of so many columns
pub record BlockRows (older newer : List ℕ) (width n a b : ℕ) : Type 0 where
  pub in_newer : a + n * width + n ≤ length newer + width
  pub in_older : b + n * width + n ≤ length older + width
  pub wide : width ≤ 1024
  pub allowed : T (block_size_ok n)

-- d is the sum `all` as far as a ceiling goes: up to the ceiling it is that sum, and where it passes the ceiling so does the sum
pub record UpTo (ceiling all d : ℕ) : Type 0 where
  pub within : d ≤ ceiling → d ≡ all
  pub over : ceiling < d → ceiling < all

-- d is the distortion by a measure of the blocks that begin at places a and b as far as the ceiling goes: its rows four at a time, of N 32 by halves
pub record BlockSum (measure ceiling : ℕ) (older newer : List ℕ) (width n a b d : ℕ) : Type 0 where
  pub up_to : UpTo ceiling (rows_from (measure_of measure) older newer width a b n n) d
  pub is : d ≡ block_up_to (measure_of measure) ceiling older newer width a b n

-- which code measures a block: N for absolute differences, N + 64 for squares; and back
unfoldable pub kernel_of : ℕ → ℕ → ℕ
kernel_of measure n = cond (eqb measure 1) n (n + 64)

abbrev pub size_by : ℕ → ℕ
size_by kernel = kernel % 64

abbrev pub measure_by : ℕ → ℕ
measure_by kernel = kernel / 64 + 1

-- a kernel has its N and its measure
pub record Kernel (measure n kernel : ℕ) : Type 0 where
  pub small : kernel < 128
  pub size : size_by kernel ≡ n
  pub measure_is : measure_of (measure_by kernel) ≡ measure_of measure

-- an allowed N is small
pub size_small : (n : ℕ) → T (block_size_ok n) → n < 64
size_small n t = omega (arith, (block_size n t).most)

pub kernel_is : {measure n kernel : ℕ} → kernel ≡ kernel_of measure n → T (block_size_ok n) → Kernel measure n kernel
unfolding kernel_of
kernel_is {measure} {n} e t = rw e (go (size_small n t) (ℕ_discrete measure 1))
  where
    go : n < 64 → Dec (measure ≡ 1) → Kernel measure n (cond (eqb measure 1) n (n + 64))
    go h (yes e) =
        let one : n / 64 + 1 ≡ 1 = omega arith in
        rw (eq-eqb measure 1 e) (record { small = omega arith; size = omega arith; measure_is = rw (one, e) })
    go h (no e) =
        let two : (n + 64) / 64 + 1 ≡ 2 = omega arith in
        rw (ne_eqb measure 1 e) (record { small = omega arith; size = omega arith; measure_is = rw two (measure_other measure e) })

-- a sum by the kernel of a measure and N
pub kernel_sum : {measure n kernel ceiling : ℕ} {older newer : List ℕ} {width a b d : ℕ} → Kernel measure n kernel
    → BlockSum (measure_by kernel) ceiling older newer width (size_by kernel) a b d
    → BlockSum measure ceiling older newer width n a b d
kernel_sum k s =
    record { up_to = rw (k.size, k.measure_is) at s.up_to; is = rw (k.size, k.measure_is) at s.is }

module _ (ceiling : ℕ) (f : ℕ → ℕ) where
  pub sum_up_to_none : sum_up_to ceiling f 0 ≡ 0
  unfolding sum_up_to
  sum_up_to_none = refl

  pub sum_up_to_more : (n : ℕ) → sum_up_to ceiling f n ≤ ceiling → sum_up_to ceiling f (n + 1) ≡ sum_up_to ceiling f n + f n
  unfolding sum_up_to
  sum_up_to_more n h = rw (add-one, le-leb (sum_up_to ceiling f n) ceiling h)

  pub sum_up_to_passed : (n m : ℕ) → ceiling < sum_up_to ceiling f n → sum_up_to ceiling f (n + m) ≡ sum_up_to ceiling f n
  unfolding sum_up_to
  sum_up_to_passed n zero h = rw add-zero
  sum_up_to_passed n (suc m) h = rw (add-suc, sum_up_to_passed n m h, lt-leb (sum_up_to ceiling f n) ceiling h)

  pub sum_up_to_is : (n : ℕ) → UpTo ceiling (sum_to f n) (sum_up_to ceiling f n)
  unfolding sum_up_to sum_to
  sum_up_to_is zero = record { within = λ h. refl; over = λ h. h }
  sum_up_to_is (suc n) = one (sum_up_to ceiling f n) (leb (sum_up_to ceiling f n) ceiling) refl (sum_up_to_is n)
    where
      one : (s : ℕ) (t : Bool) → leb s ceiling ≡ t → UpTo ceiling (sum_to f n) s → UpTo ceiling (sum_to f n + f n) (cond t (s + f n) s)
      one s true e u = let q = u.within (leb-true s ceiling e) in record { within = λ l. omega arith; over = λ l. omega arith }
      one s false e u = let h = leb-false s ceiling e in record { within = λ l. absurd (omega arith); over = λ l. omega (arith, u.over h) }

-- terms that agree
pub sum_up_to_ext : (ceiling : ℕ) (f g : ℕ → ℕ) (n : ℕ) → ((i : ℕ) → f i ≡ g i) → sum_up_to ceiling f n ≡ sum_up_to ceiling g n
unfolding sum_up_to
sum_up_to_ext ceiling f g zero h = refl
sum_up_to_ext ceiling f g (suc n) h = rw (sum_up_to_ext ceiling f g n h, h n)

-- what an answer under a ceiling says
module _ (ceiling d : ℕ) where
  pub capped_within : d ≤ ceiling → capped ceiling d ≡ Some d
  unfolding capped
  capped_within h = rw (le-leb d ceiling h)

  pub capped_over : ceiling < d → capped ceiling d ≡ None
  unfolding capped
  capped_over h = rw (lt-leb d ceiling h)

  pub within_says : (e : ℕ) → capped ceiling d ≡ Some e → (d ≤ ceiling) × (e ≡ d)
  unfolding capped
  within_says e = go (leb d ceiling) refl
    where
      go : (t : Bool) → leb d ceiling ≡ t → cond t (Some d) None ≡ Some e → (d ≤ ceiling) × (e ≡ d)
      go true q h = (leb-true d ceiling q, (let z : e ≡ d = cc in z))
      go false q h = let z : ◌≡◌ {A = ℕ} 0 1 = cc in absurd (omega arith)

  pub over_says : capped ceiling d ≡ None → ceiling < d
  unfolding capped
  over_says = go (leb d ceiling) refl
    where
      go : (t : Bool) → leb d ceiling ≡ t → cond t (Some d) None ≡ None → ceiling < d
      go true q h = let z : ◌≡◌ {A = ℕ} 0 1 = cc in absurd (omega arith)
      go false q h = leb-false d ceiling q

-- a sum as far as the ceiling goes tells as much as the whole
pub capped_sum : {ceiling all d : ℕ} → UpTo ceiling all d → capped ceiling d ≡ capped ceiling all
capped_sum {ceiling} {all} {d} u = go (leb d ceiling) refl
  where
    go : (t : Bool) → leb d ceiling ≡ t → capped ceiling d ≡ capped ceiling all
    go true q = ap (capped ceiling) (u.within (leb-true d ceiling q))
    go false q = let h = leb-false d ceiling q in capped_over ceiling d h ∙ sym (capped_over ceiling all (u.over h))

-- two blocks that stand wholly inside frames of an allowed setting: the newer one at (y, x), the older one at (r, c)
pub record Comparable (older newer : List ℕ) (s : Setting) (y x r c : ℕ) : Type 0 where
  pub placed : Placed (length older) (length newer) s y x
  pub down : r + s.n ≤ s.height
  pub across : c + s.n ≤ s.width

-- a frame's pels are bytes
abbrev pub Bytes : List ℕ → Type 0
Bytes frame = (k : ℕ) → get_or frame k 0 ≤ 255

-- of such frames, a distortion by a measure is at most the most that two pels differ, × N²
pub distortion_most : (p : Pair) (y x : ℕ) (v : Vector) → Bytes p.older → Bytes p.newer
    → distortion p y x v ≤ p.setting.n * (p.setting.n * (measure_in p).most)
unfolding distortion distortion_by
distortion_most p y x v older newer =
    sum_over_bound _ p.setting.n p.setting.n _ (λ i j hi hj. pel_most p.setting.measure _ _ (newer _) (older _))

-- where such blocks begin, and that their rows lie inside
pub begins : (older newer : List ℕ) (s : Setting) (y x r c : ℕ) → Comparable older newer s y x r c
    → (y * s.width + x ≤ length newer) × (r * s.width + c ≤ length older)
begins older newer s y x r c k =
    let p = k.placed in
    let f = p.paired.fitting in (
      omega (arith, row_fits y s.height s.width (omega (arith, f.some, p.down)), p.across, p.paired.newer_whole),
      omega (arith, row_fits r s.height s.width (omega (arith, f.some, k.down)), k.across, p.paired.older_whole),
    )

pub block-inside : (older newer : List ℕ) (s : Setting) (y x r c : ℕ) → Comparable older newer s y x r c
    → BlockRows older newer s.width s.n (y * s.width + x) (r * s.width + c)
block-inside older newer s y x r c k = record {
  in_newer = omega (arith, mul-le-mul_right s.width k.placed.down, add-mul y s.n s.width, k.placed.across, k.placed.paired.newer_whole);
  in_older = omega (arith, mul-le-mul_right s.width k.down, add-mul r s.n s.width, k.across, k.placed.paired.older_whole);
  wide = k.placed.paired.fitting.wide;
  allowed = k.placed.paired.allowed;
}

-- no distortion is larger than the largest by squares
pub distortion_largest : (measure n : ℕ) → T (block_size_ok n) → n * (n * (measure_of measure).most) ≤ largest_n * (largest_n * squares.most)
distortion_largest measure n t =
    let s = (block_size n t).most in
    mul-le-mul s (mul-le-mul s (most_small measure))
