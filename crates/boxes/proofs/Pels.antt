-- The pels of a block and its search window in an array.
--   stored_most     rows of small numbers stored among small numbers
--   pels_small      the array's places of m = 1 are small
--   window_pel      a pel of a candidate's older block; own_pel: one of the block itself
use Prim.Native.Nat.{ℕ, zero, suc, ◌+◌, ◌-◌, ◌*◌, ◌≤◌, ◌<◌}
use mathlib.Core.Path.{◌≡◌, refl, sym, ap, subst, ◌∙◌}
use mathlib.Core.List.{List}
use native.Mathlib.Nat.{add-mul, mul_comm, mul-le-mul_right}
use native.Mathlib.Numerals.{add-one}
use native.Mathlib.Decide.{dec_lt}
use native.Mathlib.Omega.{arith}
use lib.ListN.{length, get_or}
use Rattle.base.specs.Index.{row_next, row_fits}
use Rattle.base.specs.Lists.{fill_to, fill_in, fill_before, fill_after, stored_rows, stored_long, stored_in, stored_before}
use Rattle.frame.specs.Pictures.{pair_of}
use Rattle.frame.specs.declared.SearchBlock.{SearchBlock}
use Rattle.distortion.specs.Blocks.{Bytes, newer_block, older_block}
use Rattle.search.specs.Exhaustive.{grid_vector}
use Rattle.reach.specs.Reach.{Standing, reach, InReach}
use Rattle.reach.proofs.Candidates.{reach_bounds, older-at}
use Rattle.boxes.specs.Boxes.{window_pels, block_pels, area}
use Rattle.boxes.proofs.Rooms.{area_is}

-- ---- stored rows

fill_most : (d : List ℕ) (at : ℕ) (g : ℕ → ℕ) (n c u : ℕ) → at + n ≤ length d → ((j : ℕ) → g j ≤ c) → get_or d u 0 ≤ c
    → get_or (fill_to d at g n) u 0 ≤ c
fill_most d at g n c u room all h = go (dec_lt u at) (dec_lt u (at + n))
  where
    go : Dec (u < at) → Dec (u < at + n) → get_or (fill_to d at g n) u 0 ≤ c
    go (yes l) e = rw (fill_before d at g n u 0 room l) h
    go (no l) (yes e) =
        let i : u - at < n = omega arith in
        let q : at + (u - at) ≡ u = omega arith in
        subst (λ (x : ℕ). get_or (fill_to d at g n) x 0 ≤ c) q (rw (fill_in d at g n (u - at) 0 room i) (all (u - at)))
    go (no l) (no e) =
        let q : at + n + (u - (at + n)) ≡ u = omega arith in
        subst (λ (x : ℕ). get_or (fill_to d at g n) x 0 ≤ c) q
        (rw (fill_after d at g n (u - (at + n)) 0 room) (subst (λ (x : ℕ). get_or d x 0 ≤ c) (sym q) h))

module _ (g : ℕ → ℕ → ℕ) (columns : ℕ) (d : List ℕ) (at pitch : ℕ) where
  stored_most : (rows c u : ℕ) → at + rows * pitch + columns ≤ length d + pitch → ((i j : ℕ) → g i j ≤ c) → get_or d u 0 ≤ c
      → get_or (stored_rows g columns d at pitch rows) u 0 ≤ c
  unfolding stored_rows
  stored_most zero c u h all l = l
  stored_most (suc i) c u h all l =
      let e = row_next i pitch in
      let long = stored_long g columns d at pitch i (omega (arith, e, add-one i)) in
      fill_most _ (at + i * pitch) _ columns c u (omega (arith, e, add-one i, long)) (all i) (stored_most i c u (omega (arith, e, add-one i)) all l)

-- ---- places

-- row p and column q from a row and a column on
further : (width row column p q : ℕ) → row * width + column + p * width + q ≡ (row + p) * width + (column + q)
further width row column p q = omega (arith, add-mul row p width)

-- from the first row in reach on
moved : (y i top p : ℕ) → top ≤ i → 16 ≤ y + top → y + top - 16 + (i - top + p) ≡ y + i - 16 + p
moved y i top p a b = omega arith

module _ (older newer : List ℕ) (b : SearchBlock) (s : Standing b) (some : 0 < b.setting.n) (first : List ℕ)
    (room : area b.setting.n ≤ length first) where
  abbrev n : ℕ
  n = b.setting.n

  abbrev width : ℕ
  width = b.setting.width

  abbrev window : List ℕ
  window = window_pels older b first

  abbrev both : List ℕ
  both = block_pels newer b window

  -- the window's rows and columns
  sides : ((reach b).rows + n - 1 ≤ n + 32) × ((reach b).columns + n - 1 ≤ n + 32)
  sides = let k = reach_bounds b s in omega (arith, k.few_rows, k.few_columns)

  window_room : 0 + ((reach b).rows + n - 1) * (n + 32) + ((reach b).columns + n - 1) ≤ length first + (n + 32)
  window_room = omega (arith, mul-le-mul_right (n + 32) sides.0, sides.1, area_is n)

  window_long : length window ≡ length first
  window_long = stored_long _ ((reach b).columns + n - 1) first 0 (n + 32) ((reach b).rows + n - 1) window_room

  own_room : (n + 32) * (n + 32) + n * n + n ≤ length window + n
  own_room = omega (arith, window_long, area_is n)

  pub pels_small : Bytes older → Bytes newer → ((u : ℕ) → u < area n → get_or first u 0 ≤ 255) → (u : ℕ) → u < area n
      → get_or both u 0 ≤ 255
  pels_small olds news small u h =
      stored_most _ n window ((n + 32) * (n + 32)) n n 255 u own_room (λ i j. news _)
      (stored_most _ ((reach b).columns + n - 1) first 0 (n + 32) ((reach b).rows + n - 1) 255 u window_room (λ i j. olds _) (small u h))

  pub window_pel : (i j p q : ℕ) → InReach (reach b) i j → p < n → q < n
      → get_or both ((n + 32) * (i - (reach b).top + p) + (j - (reach b).left + q)) 0
      ≡ older_block (pair_of older newer b.setting) b.y b.x (grid_vector i j) p q
  window_pel i j p q h hp hq =
      let r = reach b in
      let k = reach_bounds b s in
      let row : i - r.top + p < r.rows + n - 1 = omega (arith, h.top, h.bottom) in
      let column : j - r.left + q < r.columns + n - 1 = omega (arith, h.left, h.right) in
      let o = older-at b.y b.x i j (omega (arith, k.first_row, h.top)) (omega (arith, k.first_column, h.left)) in
      let e : (n + 32) * (i - r.top + p) + (j - r.left + q) ≡ 0 + (i - r.top + p) * (n + 32) + (j - r.left + q) =
      omega (arith, mul_comm (n + 32) (i - r.top + p)) in
      stored_before _ n window ((n + 32) * (n + 32)) n n _ 0 own_room
      (omega (arith, e, row_fits (i - r.top + p) (n + 32) (n + 32) (omega (arith, row, sides.0)), column, sides.1))
      ∙ ap (λ (u : ℕ). get_or window u 0) e
      ∙ stored_in _ (r.columns + n - 1) first 0 (n + 32) (r.rows + n - 1) _ _ 0 window_room sides.1 row column
      ∙ ap (λ (u : ℕ). get_or older u 0) (further width (b.y + r.top - 16) (b.x + r.left - 16) (i - r.top + p) (j - r.left + q))
      ∙ rw (o.0, o.1, moved b.y i r.top p h.top k.first_row, moved b.x j r.left q h.left k.first_column) refl

  pub own_pel : (p q : ℕ) → p < n → q < n
      → get_or both ((n + 32) * (n + 32) + (n * p + q)) 0 ≡ newer_block (pair_of older newer b.setting) b.y b.x p q
  own_pel p q hp hq =
      let e : (n + 32) * (n + 32) + (n * p + q) ≡ (n + 32) * (n + 32) + p * n + q = omega (arith, mul_comm n p) in
      ap (λ (u : ℕ). get_or both u 0) e
      ∙ stored_in _ n window ((n + 32) * (n + 32)) n n p q 0 own_room (omega arith) hp hq
      ∙ ap (λ (u : ℕ). get_or newer u 0) (further width b.y b.x p q)
