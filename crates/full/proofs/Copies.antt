-- The copies of a block and its search window have the distortions of the frames.
--   window_pel     what a place of the copied window holds
--   copies_long    they are as long as the arrays
--   in_frames      in reach, the rows of the two blocks in the frames have the distortion of that vector
--   in_copy        and so have the copies
--   key-in-copy    and its key, by the kernel of the block's measure and N
use Prim.Native.Nat.{ℕ, ◌+◌, ◌-◌, ◌*◌, ◌≤◌, ◌<◌}
use mathlib.Core.Path.{◌≡◌, refl, sym, ap, ap₂, ◌∙◌}
use mathlib.Core.List.{List}
use native.Mathlib.Nat.{add-mul}
use native.Mathlib.Omega.{arith}
use lib.ListN.{length, get_or}
use Rattle.base.specs.Sum.{sum_over_ext}
use Rattle.base.specs.Lists.{stored_long, stored_in}
use Rattle.measures.specs.Measures.{measure_of}
use Rattle.frame.specs.Pictures.{pair_of}
use Rattle.frame.specs.declared.SearchBlock.{SearchBlock}
use Rattle.distortion.specs.Blocks.{row_from, rows_from, distortion, block_rows, Kernel, size_by, measure_by}
use Rattle.search.specs.Exhaustive.{grid_vector}
use Rattle.reach.specs.Reach.{Standing, reach, InReach}
use Rattle.reach.specs.Keys.{key_of}
use Rattle.reach.proofs.Candidates.{reach_bounds, older-at}
use Rattle.full.specs.Rows.{window_copy, block_copy, key_in_copy, key_at}

-- p rows and q columns on from a place that is i rows and j columns on
further : (width row column i j p q : ℕ) → row * width + column + (i + p) * width + (j + q) ≡ (row + i) * width + (column + j) + p * width + q
further width row column i j p q = omega (arith, add-mul i p width, add-mul row i width)

-- the same place of a copy
within : (i j top left p q : ℕ) → top ≤ i → left ≤ j → 64 * i + j + p * 64 + q ≡ 64 * top + left + (i - top + p) * 64 + (j - left + q)
within i j top left p q hi hj = omega arith

-- a row or column of a block that begins in reach is one of the window's
in-window : (i top rows n p : ℕ) → top ≤ i → i < top + rows → p < n → i - top + p < rows + n - 1
in-window i top rows n p a b h = omega arith

-- and they have room in the copy
room : (top left rows columns n : ℕ) → top + rows ≤ 33 → left + columns ≤ 33 → 0 < rows → 0 < columns → n ≤ 32
    → (64 * top + left + (rows + n - 1) * 64 + (columns + n - 1) ≤ 4096 + 64) × (columns + n - 1 ≤ 64)
room top left rows columns n a b c d h = (omega arith, omega arith)

-- where it begins
moved : (y i top : ℕ) → top ≤ i → 16 ≤ y + top → y + top - 16 + (i - top) ≡ y + i - 16
moved y i top a b = omega arith

module _ (older : List ℕ) (b : SearchBlock) (s : Standing b) (small : b.setting.n ≤ 32) (window : List ℕ) (window_long : length window ≡ 4096) where
  abbrev width : ℕ
  width = b.setting.width

  abbrev n : ℕ
  n = b.setting.n

  -- a pel of the window
  pub window_pel : (i j p q : ℕ) → InReach (reach b) i j → p < n → q < n
      → get_or (window_copy older b window) (64 * i + j + p * 64 + q) 0 ≡ get_or older ((b.y + i - 16) * width + (b.x + j - 16) + p * width + q) 0
  window_pel i j p q h hp hq =
      let r = reach b in
      let k = reach_bounds b s in
      let row = b.y + r.top - 16 in
      let fits = room r.top r.left r.rows r.columns n k.few_rows k.few_columns k.rows k.columns small in
      let there =
      rw (moved b.y i r.top h.top k.first_row, moved b.x j r.left h.left k.first_column) at
      (further width row (b.x + r.left - 16) (i - r.top) (j - r.left) p q) in
      ap (λ (k : ℕ). get_or (window_copy older b window) k 0) (within i j r.top r.left p q h.top h.left)
      ∙ stored_in _ (r.columns + n - 1) window (64 * r.top + r.left) 64 (r.rows + n - 1) (i - r.top + p) (j - r.left + q) 0
      (rw window_long fits.0)
      fits.1
      (in-window i r.top r.rows n p h.top h.bottom hp)
      (in-window j r.left r.columns n q h.left h.right hq)
      ∙ ap (λ (k : ℕ). get_or older k 0) there

  pub window_copy_long : length (window_copy older b window) ≡ 4096
  window_copy_long =
      let r = reach b in
      let k = reach_bounds b s in
      let fits = room r.top r.left r.rows r.columns n k.few_rows k.few_columns k.rows k.columns small in
      stored_long _ (r.columns + n - 1) window (64 * r.top + r.left) 64 (r.rows + n - 1) (rw window_long fits.0) ∙ window_long

-- in reach, the rows of the two blocks in the frames have the distortion of that vector
pub in_frames : (older newer : List ℕ) (b : SearchBlock) → Standing b → (i j : ℕ) → InReach (reach b) i j → let s = b.setting in
    rows_from (measure_of s.measure) older newer s.width (b.y * s.width + b.x) ((b.y + i - 16) * s.width + (b.x + j - 16)) s.n s.n
    ≡ distortion (pair_of older newer s) b.y b.x (grid_vector i j)
unfolding distortion
in_frames older newer b s i j h =
    let k = reach_bounds b s in
    let o = older-at b.y b.x i j (omega (arith, k.first_row, h.top)) (omega (arith, k.first_column, h.left)) in
    sym (block_rows (measure_of b.setting.measure) older newer b.setting.width b.y b.x (b.y + i - 16) (b.x + j - 16) b.setting.n)
    ∙ rw (o.0, o.1) refl

module _ (older newer : List ℕ) (b : SearchBlock) (s : Standing b) (small : b.setting.n ≤ 32) (window block : List ℕ)
    (window_long : length window ≡ 4096) (block-long : length block ≡ 2048) where
  pub copies_long : (length (window_copy older b window) ≡ 4096) × (length (block_copy newer b block) ≡ 2048)
  copies_long = (
    window_copy_long older b s small window window_long,
    stored_long _ b.setting.n block 0 64 b.setting.n (omega arith) ∙ block-long,
  )

  pub in_copy : (i j : ℕ) → InReach (reach b) i j
      → rows_from (measure_of b.setting.measure) (window_copy older b window) (block_copy newer b block) 64 0 (64 * i + j) b.setting.n b.setting.n
      ≡ distortion (pair_of older newer b.setting) b.y b.x (grid_vector i j)
  unfolding row_from
  in_copy i j h =
      sum_over_ext b.setting.n b.setting.n _ _ (λ p q hp hq. ap₂ (measure_of b.setting.measure).diff
      (stored_in _ b.setting.n block 0 64 b.setting.n p q 0 (omega arith) (omega arith) hp hq)
      (window_pel older b s small window window_long i j p q h hp hq))
      ∙ in_frames older newer b s i j h

  pub key-in-copy : (kernel : ℕ) → Kernel b.setting.measure b.setting.n kernel → (i j : ℕ) → InReach (reach b) i j
      → key_in_copy (measure_by kernel) (size_by kernel) (window_copy older b window) (block_copy newer b block) i j ≡ key_at older newer b i j
  key-in-copy kernel k i j h = rw (k.size, k.measure_is) (ap (λ (d : ℕ). key_of d i j) (in_copy i j h))
