-- Values between pels, half-pel blocks, and the array that holds one.
--   half_even     at even places the value is the pel; even_block: a block at an even place is the pels'
--   half_from     a value of a block by the place of its first pel
--   value_most    a value of bytes is a byte
--   half_inside_yes, half_inside_true   the relation and the test say the same
--   half_room     a row of a block, with the pels that it needs, lies inside the frame
--   half_more     one row more of a block that is stored in an array
--   half_long     the array is as long as before; half_stored: what it holds
--   half_rows_inside, half-distortion   its rows can be measured, and its distortion is the block's
use Prim.Native.Nat.{ℕ, ◌+◌, ◌-◌, ◌*◌, ◌/◌, ◌%◌, ◌≤◌, ◌<◌}
use mathlib.Core.Path.{◌≡◌, sym, ap, ap₂, ◌∙◌}
use mathlib.Core.Bool.{Bool, true, false, cond}
use mathlib.Core.List.{List}
use native.Mathlib.Nat.{add-mul}
use native.Mathlib.Omega.{arith}
use native.Mathlib.Decide.{ℕ_discrete}
use borrow.Author.Tests.{eq-eqb, ne_eqb}
use lib.Dec.{T, leb→le, le→leb}
use lib.IntN.{ℤ, pos, negsuc}
use lib.ListN.{length, get_or}
use lib.Signed.{le_z_yes}
use Rattle.base.specs.Index.{row_next, row_fits}
use Rattle.base.specs.Lists.{fill_to, fill_ext, stored_rows, stored_more, stored_long, stored_in}
use Rattle.base.specs.Sum.{sum_over_ext}
use Rattle.base.specs.Tests.{one}
use Rattle.measures.specs.Measures.{Measure}
use Rattle.frame.specs.declared.Setting.{Setting}
use Rattle.frame.specs.Pictures.{pel}
use Rattle.refusals.specs.Refusals.{block_size_ok}
use Rattle.distortion.specs.Blocks.{Bytes, BlockRows, block_at, distortion_by, row_from, rows_from}
use Rattle.half_pel.specs.HalfPel.{odd, value_of, half_pel, HalfInside, half_inside, half_block, HalfReady, value_from, half_rows}

module _ (frame : List ℕ) (width : ℕ) where
  -- at even places the value is the pel
  pub half_even : (r c : ℕ) → half_pel frame width (2 * r) (2 * c) ≡ pel frame width r c
  unfolding half_pel value_of
  half_even r c =
      let dr : 2 * r / 2 ≡ r = omega arith in
      let dc : 2 * c / 2 ≡ c = omega arith in
      let mr : 2 * r % 2 ≡ 0 = omega arith in
      let mc : 2 * c % 2 ≡ 0 = omega arith in
      rw (mr, mc, dr, dc)

  -- at an even place the block is the pels'
  pub even_block : (y x i j : ℕ) → half_block frame width (2 * y) (2 * x) i j ≡ pel frame width (y + i) (x + j)
  even_block y x i j =
      let down : 2 * y + 2 * i ≡ 2 * (y + i) = omega arith in
      let across : 2 * x + 2 * j ≡ 2 * (x + j) = omega arith in
      rw (down, across) (half_even (y + i) (x + j))

  -- a value of a block by the place of its first pel
  pub half_from : (p q i j : ℕ) → half_block frame width p q i j ≡ value_from frame width (odd p) (odd q) (p / 2 * width + q / 2 + i * width + j)
  unfolding half_pel
  half_from p q i j =
      let dp : (p + 2 * i) / 2 ≡ p / 2 + i = omega arith in
      let dq : (q + 2 * j) / 2 ≡ q / 2 + j = omega arith in
      let mp : (p + 2 * i) % 2 ≡ p % 2 = omega arith in
      let mq : (q + 2 * j) % 2 ≡ q % 2 = omega arith in
      let at : (p / 2 + i) * width + (q / 2 + j) ≡ p / 2 * width + q / 2 + i * width + j = omega (arith, add-mul (p / 2) i width) in
      let next : (p / 2 + i) * width + (q / 2 + j + 1) ≡ p / 2 * width + q / 2 + i * width + j + 1 = omega arith in
      let below : (p / 2 + i + 1) * width + (q / 2 + j) ≡ p / 2 * width + q / 2 + i * width + j + width = omega (arith, row_next (p / 2 + i) width) in
      let last : (p / 2 + i + 1) * width + (q / 2 + j + 1) ≡ p / 2 * width + q / 2 + i * width + j + width + 1 = omega arith in
      rw (mp, mq, dp, dq, at, next, below, last)

  -- a value of bytes is a byte
  pub value_most : (p q : ℕ) → Bytes frame → half_pel frame width p q ≤ 255
  unfolding half_pel value_of
  value_most p q bytes = most (odd p) (odd q) _ _ _ _ (bytes _) (bytes _) (bytes _) (bytes _)
    where
      most : (down across : Bool) (a b c d : ℕ) → a ≤ 255 → b ≤ 255 → c ≤ 255 → d ≤ 255 → value_of down across a b c d ≤ 255
      most true true a b c d ha hb hc hd = omega arith
      most true false a b c d ha hb hc hd = omega arith
      most false true a b c d ha hb hc hd = omega arith
      most false false a b c d ha hb hc hd = ha

-- the relation and the test say the same
pub half_inside_yes : (z : ℤ) (n side : ℕ) → T (half_inside z n side) → HalfInside z n side
half_inside_yes (pos z) n side t = record {
  from = le_z_yes (le→leb 0 z (omega arith));
  to = λ i r h need. omega (arith, leb→le (z / 2 + (n + z % 2)) side t, need.from, need.to);
}
half_inside_yes (negsuc z) n side t = absurd t

pub half_inside_true : (z : ℤ) (n side : ℕ) → 0 < n → HalfInside z n side → T (half_inside z n side)
half_inside_true (pos z) n side some i =
    let last = i.to (n - 1) ((z + 2 * (n - 1) + 1) / 2) (omega arith) (record { from = omega arith; to = omega arith }) in
    le→leb (z / 2 + (n + z % 2)) side (omega arith)
half_inside_true (negsuc z) n side some i = absurd i.from.le

-- what an odd place adds
odd_adds : (p w : ℕ) → cond (odd p) w 0 ≡ p % 2 * w
odd_adds p w = go (ℕ_discrete (p % 2) 1)
  where
    go : Dec (p % 2 ≡ 1) → cond (odd p) w 0 ≡ p % 2 * w
    go (yes e) = rw (eq-eqb (p % 2) 1 e, e) (omega arith)
    go (no e) = let z : p % 2 ≡ 0 = omega arith in rw (ne_eqb (p % 2) 1 e, z) (omega arith)

-- row i of a block, with the pels that it needs below and beside it, lies inside the frame
pub half_room : (frame : List ℕ) (s : Setting) (p q : ℕ) → HalfReady frame s p q → (i : ℕ) → i < s.n
    → p / 2 * s.width + q / 2 + i * s.width + s.n + cond (odd p) s.width 0 + one (odd q) ≤ length frame
half_room frame s p q k i h =
    omega (
      arith,
      odd_adds p s.width,
      odd_adds q 1,
      row_fits (p / 2 + i + p % 2) s.height s.width (omega (arith, k.down)),
      add-mul (p / 2 + i) (p % 2) s.width,
      add-mul (p / 2) i s.width,
      k.across,
      k.whole,
    )

-- one row more of a block that is stored in an array
pub half_more : (frame : List ℕ) (width p q n : ℕ) (half : List ℕ) (i : ℕ)
    → fill_to (stored_rows (half_block frame width p q) n half 0 32 i) (0 + i * 32)
    (λ j. value_from frame width (odd p) (odd q) (p / 2 * width + q / 2 + i * width + j)) n
    ≡ stored_rows (half_block frame width p q) n half 0 32 (i + 1)
half_more frame width p q n half i =
    fill_ext _ _ _ _ n (λ j h. sym (half_from frame width p q i j)) ∙ sym (stored_more (half_block frame width p q) n half 0 32 i)

module _ (frame : List ℕ) (width p q : ℕ) (half : List ℕ) (n : ℕ) (long : length half ≡ 1024) (small : n ≤ 32) where
  -- an array with a block stored in it is as long as before
  pub half_long : length (half_rows frame width p q half n) ≡ 1024
  half_long = stored_long _ n half 0 32 n (omega arith) ∙ long

  -- what the place of row i, column j holds
  at_zero : (i j : ℕ) → i < n → j < n → get_or (half_rows frame width p q half n) (0 + i * 32 + j) 0 ≡ half_block frame width p q i j
  at_zero i j hi hj = stored_in _ n half 0 32 n i j 0 (omega arith) small hi hj

  -- the rows of the two arrays can be measured
  pub half_rows_inside : (block : List ℕ) → length block ≡ 1024 → T (block_size_ok n) → BlockRows (half_rows frame width p q half n) block 32 n 0 0
  half_rows_inside block e allowed =
      record { in_newer = omega arith; in_older = omega (arith, half_long); wide = omega arith; allowed = allowed }

  -- the distortion against the array is that against the block
  pub half-distortion : (μ : Measure) (block : List ℕ) → rows_from μ (half_rows frame width p q half n) block 32 0 0 n n
      ≡ distortion_by μ n (block_at block 32 0 0) (half_block frame width p q)
  unfolding distortion_by row_from
  half-distortion μ block =
      sum_over_ext n n _ _ (λ i j hi hj. ap₂ μ.diff (ap (λ (k : ℕ). get_or block k 0) (place i j)) (at_zero i j hi hj))
    where
      place : (i j : ℕ) → 0 + i * 32 + j ≡ (0 + i) * 32 + (0 + j)
      place i j = omega arith

-- place i × 32 + j of such an array holds the block's value at row i, column j
pub half_stored : (frame : List ℕ) (width p q : ℕ) (half : List ℕ) (n i j : ℕ) → length half ≡ 1024 → n ≤ 32 → i < n → j < n
    → get_or (half_rows frame width p q half n) (i * 32 + j) 0 ≡ half_block frame width p q i j
half_stored frame width p q half n i j long small hi hj =
    let e : i * 32 + j ≡ 0 + i * 32 + j = omega arith in
    rw e (at_zero frame width p q half n long small i j hi hj)
