-- Rows of a block one below the other: their sum pel by pel, the rows below the first k, which begin k widths on, what a sum as far as a ceiling goes
-- tells of all rows, and the rows of a frame that is cut where the block begins.
use Prim.Native.Nat.{ℕ, ◌+◌, ◌-◌, ◌*◌, ◌/◌, ◌%◌, ◌≤◌, ◌<◌}
use mathlib.Core.Path.{◌≡◌, refl, sym, ap, ap₂, ◌∙◌}
use mathlib.Core.List.{List}
use native.Mathlib.Nat.{zero-add, add_assoc, add-mul, mul_comm, mul-le-mul_right, mul-div_cancel}
use native.Mathlib.Omega.{arith}
use borrow.Author.Tests.{le-leb}
use lib.Dec.{T}
use lib.ListN.{length, get_or, take, drop, length-drop}
use lib.Seq.{get_or-drop}
use borrow.Author.Rules.{part_to_end}
use Rattle.base.specs.Index.{row_next, row_fits}
use Rattle.base.specs.Sum.{sum_to, sum_to_more, sum_to_ext, sum_to_add, sum_to_cut, sum_to_group, sum_over_ext}
use Rattle.refusals.specs.Refusals.{block_size_ok, block_size_elim, block_size}
use Rattle.measures.specs.Measures.{Measure, measure_of}
use Rattle.distortion.specs.Blocks.{row_first, row-more, row_from, rows_apart, rows_from, pieces_up_to, rows_up_to, half, halves_up_to, sum_up_to_is, sum_up_to_ext, Rows, BlockRows, BlockSum, UpTo, size_by}

module _ (μ : Measure) (older newer : List ℕ) (across width a b n : ℕ) where
  -- a sum as far as row i and column j: i rows and j pels of the next, each pel at most the measure's most
  pub record Summed (i j sum : ℕ) : Type 0 where
    pub is : sum ≡ rows_apart μ older newer across width a b n i + row_from μ older newer (a + i * across) (b + i * width) j
    pub most : sum ≤ i * (n * μ.most) + j * μ.most

  pub summed_none : Summed 0 0 0
  unfolding sum_to
  summed_none = record { is = rw row_first; most = omega arith }

  -- a pel more
  pub summed_pel : (i j sum d : ℕ) → Summed i j sum → d ≡ μ.diff (get_or newer (a + (i * across + j)) 0) (get_or older (b + (i * width + j)) 0) → d ≤ μ.most
      → Summed i (j + 1) (sum + d)
  summed_pel i j sum d s e l =
      let more = row-more μ older newer (a + i * across) (b + i * width) j in
      let at : d ≡ μ.diff (get_or newer (a + i * across + j) 0) (get_or older (b + i * width + j) 0) = rw (← add_assoc a, ← add_assoc b) at e in
      record { is = omega (arith, s.is, more, at); most = omega (arith, s.most, row_next j μ.most) }

  -- at a row's end the next begins
  pub summed_row : (i sum : ℕ) → Summed i n sum → Summed (i + 1) 0 sum
  summed_row i sum s = record { is = rw (sum_to_more, row_first) (omega (arith, s.is)); most = omega (arith, s.most, row_next i (n * μ.most)) }

  -- after the last of them
  pub summed_all : (i sum : ℕ) → Summed i 0 sum → (sum ≡ rows_apart μ older newer across width a b n i) × (sum ≤ i * (n * μ.most))
  summed_all i sum s = (omega (arith, s.is, row_first μ older newer (a + i * across) (b + i * width)), omega (arith, s.most))

  -- m rows below the first k
  pub rows_cut : (k m : ℕ)
      → rows_apart μ older newer across width a b n (k + m)
      ≡ rows_apart μ older newer across width a b n k + rows_apart μ older newer across width (a + k * across) (b + k * width) n m
  rows_cut k m =
      rw (sum_to_cut (λ i. row_from μ older newer (a + i * across) (b + i * width) n) k m)
      (ap₂ ◌+◌ refl (sum_to_ext _ _ m (λ i h. ap₂ (λ (p q : ℕ). row_from μ older newer p q n) (place a across i) (place b width i))))
    where
      place : (a apart i : ℕ) → a + (k + i) * apart ≡ a + k * apart + i * apart
      place a apart i = omega (arith, add-mul k i apart)

-- rows in groups of four
by_fours : (μ : Measure) (older newer : List ℕ) (width a b n groups : ℕ)
    → rows_from μ older newer width a b n (4 * groups) ≡ sum_to (λ g. rows_from μ older newer width (a + 4 * g * width) (b + 4 * g * width) n 4) groups
by_fours μ older newer width a b n groups =
    rw (mul_comm 4 groups)
    (sum_to_group (λ i. row_from μ older newer (a + i * width) (b + i * width) n) groups 4
    ∙ sum_over_ext groups 4 _ _ (λ g i hg hi. ap₂ (λ (p q : ℕ). row_from μ older newer p q n) (place a g i) (place b g i)))
  where
    place : (a g i : ℕ) → a + (g * 4 + i) * width ≡ a + 4 * g * width + i * width
    place a g i = rw (mul_comm 4 g) (omega (arith, add-mul (g * 4) i width))

-- what four rows at a time tell of all of them
pub rows-up-to : (μ : Measure) (ceiling : ℕ) (older newer : List ℕ) (width a b n groups d : ℕ) → d ≡ rows_up_to μ ceiling older newer width a b n groups
    → UpTo ceiling (rows_from μ older newer width a b n (4 * groups)) d
rows-up-to μ ceiling older newer width a b n groups d e = rw (e, by_fours μ older newer width a b n groups) (sum_up_to_is ceiling _ groups)

-- ---- halves

-- the half after the next stands below this one, and 16 pels of four rows from there on lie inside
pub half_below : (width g : ℕ) → half width (g + 2) ≡ half width g + 4 * width
half_below width g =
    let e : (g + 2) / 2 ≡ g / 2 + 1 = omega arith in
    let f : (g + 2) % 2 ≡ g % 2 = omega arith in
    let h : 4 * (g / 2 + 1) ≡ 4 * (g / 2) + 4 = omega arith in
    rw (e, f, h) (omega (arith, add-mul (4 * (g / 2)) 4 width))

pub half-inside : (width g : ℕ) → g < 16 → half width g + 4 * width ≤ 4 * 8 * width + 16
half-inside width g l =
    let h : 4 * (g / 2) + 4 ≤ 4 * 8 = omega arith in
    omega (arith, add-mul (4 * (g / 2)) 4 width, mul-le-mul_right width h)

module _ (μ : Measure) (older newer : List ℕ) (width : ℕ) where
  -- a row of 32 is its halves
  row_halves : (a b : ℕ) → row_from μ older newer a b 32 ≡ row_from μ older newer a b 16 + row_from μ older newer (a + 16) (b + 16) 16
  unfolding row_from
  row_halves a b =
      sum_to_cut (λ j. μ.diff (get_or newer (a + j) 0) (get_or older (b + j) 0)) 16 16
      ∙ ap₂ ◌+◌ refl (sum_to_ext _ _ 16 (λ j h. ap₂ (λ (p q : ℕ). μ.diff (get_or newer p 0) (get_or older q 0)) (sym (add_assoc a 16 j)) (sym (add_assoc b 16 j))))

  -- and so are four of them
  four_halves : (a b : ℕ) → rows_from μ older newer width a b 32 4 ≡ rows_from μ older newer width a b 16 4 + rows_from μ older newer width (a + 16) (b + 16) 16 4
  four_halves a b =
      sum_to_ext _ _ 4 (λ i h. row_halves (a + i * width) (b + i * width) ∙ ap₂ (λ (p q : ℕ). row_from μ older newer (a + i * width) (b + i * width) 16 + row_from μ older newer p q 16) (place a i) (place b i))
      ∙ sum_to_add (λ i. row_from μ older newer (a + i * width) (b + i * width) 16) (λ i. row_from μ older newer (a + 16 + i * width) (b + 16 + i * width) 16) 4
    where
      place : (a i : ℕ) → a + i * width + 16 ≡ a + 16 + i * width
      place a i = omega arith

  -- 32 rows of 32 are 16 halves
  by_halves : (a b : ℕ) → rows_from μ older newer width a b 32 32 ≡ sum_to (λ g. rows_from μ older newer width (a + half width g) (b + half width g) 16 4) 16
  unfolding sum_to
  by_halves a b =
      by_fours μ older newer width a b 32 8
      ∙ sum_to_ext _ _ 8 (λ g h. four_halves (a + 4 * g * width) (b + 4 * g * width) ∙ sym (two g))
      ∙ sym (sum_to_group (λ g. rows_from μ older newer width (a + half width g) (b + half width g) 16 4) 8 2)
    where
      place : (a g k : ℕ) → k < 2 → a + half width (g * 2 + k) ≡ a + 4 * g * width + 16 * k
      place a g k l =
          let e : (g * 2 + k) / 2 ≡ g = omega arith in
          let f : (g * 2 + k) % 2 ≡ k = omega arith in
          rw (e, f) (omega arith)

      first : (a g : ℕ) → a + half width (g * 2 + 0) ≡ a + 4 * g * width
      first a g = omega (arith, place a g 0 (omega arith))

      at : (p q p' q' : ℕ) → p ≡ p' → q ≡ q' → rows_from μ older newer width p q 16 4 ≡ rows_from μ older newer width p' q' 16 4
      at p q p' q' e f = ap₂ (λ (x y : ℕ). rows_from μ older newer width x y 16 4) e f

      two : (g : ℕ) → sum_to (λ k. rows_from μ older newer width (a + half width (g * 2 + k)) (b + half width (g * 2 + k)) 16 4) 2
          ≡ rows_from μ older newer width (a + 4 * g * width) (b + 4 * g * width) 16 4
          + rows_from μ older newer width (a + 4 * g * width + 16) (b + 4 * g * width + 16) 16 4
      two g =
          ap₂ ◌+◌ (zero-add _ ∙ at _ _ _ _ (first a g) (first b g)) (at _ _ _ _ (place a g 1 (omega arith)) (place b g 1 (omega arith)))

-- a frame from a place on
abbrev pub part_from : ℕ → List ℕ → List ℕ
part_from a l = take (length l - a) (drop a l)

length_from : (a : ℕ) (l : List ℕ) → length (part_from a l) ≡ length l - a
length_from a l = ap length (part_to_end l a) ∙ length-drop a l

get_d_from : (a : ℕ) (l : List ℕ) (k : ℕ) → get_or (part_from a l) k 0 ≡ get_or l (a + k) 0
get_d_from a l k = ap (λ (z : List ℕ). get_or z k 0) (part_to_end l a) ∙ get_or-drop a l k 0

-- blocks that lie inside begin inside
pub block_begins : (older newer : List ℕ) (width n a b : ℕ) → BlockRows older newer width n a b → (a ≤ length newer) × (b ≤ length older)
block_begins older newer width n a b k =
    let first = row_fits 0 n width (omega (arith, (block_size n k.allowed).least)) in
    (omega (arith, k.in_newer), omega (arith, k.in_older))

-- the pieces of blocks that begin at places a and b are the pieces of two frames that begin there
pieces_from : (μ : Measure) (ceiling : ℕ) (older newer : List ℕ) (width a b n : ℕ) (at : ℕ → ℕ) (pieces : ℕ)
    → pieces_up_to μ ceiling (part_from b older) (part_from a newer) width 0 0 n at pieces ≡ pieces_up_to μ ceiling older newer width a b n at pieces
unfolding row_from
pieces_from μ ceiling older newer width a b n at pieces =
    sum_up_to_ext ceiling _ _ pieces
    (λ g. sum_over_ext 4 n _ _ (λ i j hi hj. ap₂ μ.diff (pel_is newer a g i j) (pel_is older b g i j)))
  where
    pel_is : (l : List ℕ) (a g i j : ℕ) → get_or (part_from a l) (0 + at g + i * width + j) 0 ≡ get_or l (a + at g + i * width + j) 0
    pel_is l a g i j = get_d_from a l _ ∙ ap (λ (k : ℕ). get_or l k 0) (omega arith)

-- N rows are N / 4 groups of four
pub by_four : (older newer : List ℕ) (width n a b m groups : ℕ) → BlockRows older newer width n a b → n ≡ m → m ≡ 4 * groups → groups ≤ 16
    → Rows (part_from b older) (part_from a newer) width m groups
by_four older newer width n a b m groups k e four few =
    let rows : n * width ≡ 4 * groups * width = rw (e, four) in
    record {
      in_newer = omega (arith, k.in_newer, length_from a newer);
      in_older = omega (arith, k.in_older, length_from b older);
      wide = k.wide;
      thin = omega arith;
      few = few;
    }

-- and what they add up to
pub block_sum : (measure ceiling : ℕ) (older newer : List ℕ) (width n a b m groups d : ℕ) → n ≡ m → m ≡ 4 * groups → m ≤ 16
    → d ≡ rows_up_to (measure_of measure) ceiling (part_from b older) (part_from a newer) width 0 0 m groups
    → BlockSum measure ceiling older newer width n a b d
block_sum measure ceiling older newer width n a b m groups d e four small h =
    let is : d ≡ rows_up_to (measure_of measure) ceiling older newer width a b n groups =
    rw e (h ∙ pieces_from _ ceiling older newer width a b m (λ g. 4 * g * width) groups) in
    let all : n ≡ 4 * groups = e ∙ four in
    let quarter : n / 4 ≡ groups = rw (all, mul_comm 4 groups) (mul-div_cancel groups (omega arith)) in
    record {
      up_to = rw (← all) at (rows-up-to (measure_of measure) ceiling older newer width a b n groups d is);
      is = rw (le-leb n 16 (omega arith), quarter) is;
    }

-- and what the halves of a block of 32 do
pub block_halves : (measure ceiling : ℕ) (older newer : List ℕ) (width n a b d : ℕ) → n ≡ 32
    → d ≡ halves_up_to (measure_of measure) ceiling (part_from b older) (part_from a newer) width 0 0 16
    → BlockSum measure ceiling older newer width n a b d
block_halves measure ceiling older newer width n a b d e h =
    let is : d ≡ halves_up_to (measure_of measure) ceiling older newer width a b 16 = h ∙ pieces_from _ ceiling older newer width a b 16 (half width) 16 in
    rw e
    (record {
      up_to = rw (is, by_halves (measure_of measure) older newer width a b) (sum_up_to_is ceiling _ 16);
      is = is;
    })

-- a kernel of absolute differences, or one of squares, that is none of the others is that of N 32
pub last_absolute : (k : ℕ) → k < 64 → T (block_size_ok (size_by k)) → (k ≡ 16 → ⊥) → (k ≡ 8 → ⊥) → (k ≡ 4 → ⊥) → k ≡ 32
last_absolute k h t a b c =
    block_size_elim (λ (m : ℕ). size_by k ≡ m → k ≡ 32) (λ q. absurd (c (omega arith))) (λ q. absurd (b (omega arith))) (λ q. absurd (a (omega arith)))
    (λ q. omega arith) (size_by k) t refl

pub last_squares : (k : ℕ) → 64 ≤ k → k < 128 → T (block_size_ok (size_by k)) → (k ≡ 80 → ⊥) → (k ≡ 72 → ⊥) → (k ≡ 68 → ⊥) → k ≡ 96
last_squares k l h t a b c =
    block_size_elim (λ (m : ℕ). size_by k ≡ m → k ≡ 96) (λ q. absurd (c (omega arith))) (λ q. absurd (b (omega arith))) (λ q. absurd (a (omega arith)))
    (λ q. omega arith) (size_by k) t refl
