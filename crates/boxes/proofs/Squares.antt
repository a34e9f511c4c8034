-- The boxes of a block and its search window are the pel sums of squares.
--   span_short       the places from the first candidate to the last are few
--   older_place      where the squares of a candidate's older block stand; newer_place: and those of the block itself
--   window_in_array  each place that is filled lies in an array of five areas; own_in_array: also those of the block
--   boxed            the pels, and from them all boxes: Boxed
use Prim.Native.Nat.{ℕ, ◌+◌, ◌-◌, ◌*◌, ◌/◌, ◌≤◌, ◌<◌}
use mathlib.Core.Path.{◌≡◌, sym, ap, ◌∙◌}
use mathlib.Core.List.{List}
use native.Mathlib.Nat.{add-mul, mul-add, mul_comm, mul-le-mul_left}
use native.Mathlib.Omega.{arith}
use lib.ListN.{length, get_or}
use Rattle.base.specs.Index.{row_fits}
use Rattle.base.specs.Sum.{sum_over_ext}
use Rattle.frame.specs.Pictures.{pair_of}
use Rattle.frame.specs.declared.Region.{Region}
use Rattle.frame.specs.declared.SearchBlock.{SearchBlock}
use Rattle.distortion.specs.Blocks.{Bytes, newer_block, older_block}
use Rattle.search.specs.Exhaustive.{grid_vector}
use Rattle.search.specs.Target.{Ready}
use Rattle.reach.specs.Reach.{Standing, reach, InReach}
use Rattle.reach.proofs.Candidates.{reach_bounds, ready_standing}
use Rattle.pruned_rule.specs.Distance.{square_sum}
use Rattle.boxes.specs.Boxes.{box, window_pels, block_pels, Cut, area, level_at, own_at, span_of, window_places, own_places, Levels, Boxed}
use Rattle.boxes.proofs.Box.{box_most, box_ext}
use Rattle.boxes.proofs.Rooms.{cut_at, cut_some, area_is, window_inside, window_room, own_inside, own_room, square_inside}
use Rattle.boxes.proofs.Pels.{pels_small, window_pel, own_pel}

pub span_short : (n : ℕ) (r : Region) → r.rows ≤ 33 → r.columns ≤ 33 → span_of n r ≤ (n + 32) * 32 + 33
span_short n r a b = omega (arith, mul-le-mul_left (n + 32) (let h : r.rows - 1 ≤ 32 = omega arith in h))

-- ---- where squares stand

pub older_place : (n : ℕ) (r : Region) (i j m p q : ℕ) → InReach r i j → p < n / m → q < n / m
    → (n + 32) * (i - r.top + p * m) + (j - r.left + q * m) < window_places n (span_of n r) m
older_place n r i j m p q h hp hq =
    let a = square_inside n m p hp in
    let c = square_inside n m q hq in
    omega (
      arith,
      mul-add (n + 32) (i - r.top) (p * m),
      mul-le-mul_left (n + 32) (let e : i - r.top ≤ r.rows - 1 = omega (arith, h.top, h.bottom) in e),
      mul-le-mul_left (n + 32) (let e : p * m ≤ n - m = omega arith in e),
      add-mul (n + 32) 1 (n - m),
      h.left,
      h.right,
    )

pub newer_place : (n m p q : ℕ) → p < n / m → q < n / m → n * (p * m) + q * m < own_places n m
newer_place n m p q hp hq =
    let a = square_inside n m p hp in
    let c = square_inside n m q hq in
    omega (arith, mul-le-mul_left n (let e : p * m ≤ n - m = omega arith in e), add-mul n 1 (n - m))

-- the boxes of m lie in their area
pub window_in_array : (n span m t : ℕ) → span ≤ (n + 32) * 32 + 33 → Cut n m → t < window_places n span m → level_at n m + t < 5 * area n
window_in_array n span m t short c h =
    omega (
      arith,
      cut_at n m c,
      row_fits c.exponent 5 (area n) (omega (arith, c.few)),
      area_is n,
      window_room n span m c.inside short (cut_some n m c),
    )

pub own_in_array : (n m t : ℕ) → Cut n m → t < own_places n m → own_at n m + t < 5 * area n
own_in_array n m t c h =
    omega (
      arith,
      cut_at n m c,
      row_fits c.exponent 5 (area n) (omega (arith, c.few)),
      area_is n,
      own_room n m c.inside (cut_some n m c),
    )

-- ---- what they are

most_is : (m : ℕ) → m * (m * 255) ≡ 255 * m * m
most_is m = mul_comm m (m * 255) ∙ ap (λ (k : ℕ). k * m) (mul_comm m 255)

-- p rows and q columns on in a square that stands at row y, column x
inside_square : (pitch y x p q : ℕ) → pitch * y + x + p * pitch + q ≡ pitch * (y + p) + (x + q)
inside_square pitch y x p q = omega (arith, mul-add pitch y p, mul_comm pitch p)

module _ (older newer : List ℕ) (b : SearchBlock) (ready : Ready older newer b) (olds : Bytes older) (news : Bytes newer) (first : List ℕ)
    (room : 5 * area b.setting.n ≤ length first) (small : (u : ℕ) → u < area b.setting.n → get_or first u 0 ≤ 255) where
  abbrev n : ℕ
  n = b.setting.n

  abbrev pels : List ℕ
  pels = block_pels newer b (window_pels older b first)

  standing : Standing b
  standing = ready_standing older newer b ready

  some : 0 < n
  some = ready.placed.paired.fitting.some

  abbrev span : ℕ
  span = span_of n (reach b)

  pub short : span ≤ (n + 32) * 32 + 33
  short = let k = reach_bounds b standing in span_short n (reach b) (omega (arith, k.few_rows)) (omega (arith, k.few_columns))

  pub first_small : (u : ℕ) → u < area n → get_or pels u 0 ≤ 255
  first_small = pels_small older newer b standing some first (omega arith) olds news small

  module _ (boxes : List ℕ) (levels : Levels (λ u. get_or pels u 0) n span boxes)
      (kept : (u : ℕ) → u < area n → get_or boxes u 0 ≡ get_or pels u 0) where
    -- the places of a box lie in those of m = 1
    window_area : (m t p q : ℕ) → Cut n m → t < window_places n span m → p < m → q < m → t + p * (n + 32) + q < area n
    window_area m t p q c h hp hq = omega (arith, area_is n, window_inside n span m c.inside short t p q h hp hq)

    own_area : (m t p q : ℕ) → Cut n m → t < own_places n m → p < m → q < m → (n + 32) * (n + 32) + (t + p * n + q) < area n
    own_area m t p q c h hp hq = omega (arith, area_is n, own_inside n m c.inside t p q h hp hq)

    older_is : (i j m p q : ℕ) → InReach (reach b) i j → Cut n m → p < n / m → q < n / m
        → get_or boxes (level_at n m + ((n + 32) * (i - (reach b).top + p * m) + (j - (reach b).left + q * m))) 0
        ≡ square_sum (older_block (pair_of older newer b.setting) b.y b.x (grid_vector i j)) m p q
    unfolding box square_sum
    older_is i j m p q h c hp hq =
        let y = i - (reach b).top in
        let x = j - (reach b).left in
        let a = square_inside n m p hp in
        let d = square_inside n m q hq in
        levels.window m _ c (older_place n (reach b) i j m p q h hp hq)
        ∙ sum_over_ext m m _ _ (λ k l hk hl.
        ap (λ (u : ℕ). get_or pels u 0) (place y x k l)
        ∙ window_pel older newer b standing some first (omega arith) i j (p * m + k) (q * m + l) h (omega arith) (omega arith))
      where
        place : (y x k l : ℕ) → (n + 32) * (y + p * m) + (x + q * m) + k * (n + 32) + l ≡ (n + 32) * (y + (p * m + k)) + (x + (q * m + l))
        place y x k l =
            let e : y + p * m + k ≡ y + (p * m + k) = omega arith in
            inside_square (n + 32) (y + p * m) (x + q * m) k l ∙ omega (arith, ap (λ (z : ℕ). (n + 32) * z) e)

    newer_is : (m p q : ℕ) → Cut n m → p < n / m → q < n / m
        → get_or boxes (own_at n m + (n * (p * m) + q * m)) 0 ≡ square_sum (newer_block (pair_of older newer b.setting) b.y b.x) m p q
    unfolding box square_sum
    newer_is m p q c hp hq =
        let a = square_inside n m p hp in
        let d = square_inside n m q hq in
        levels.own m _ c (newer_place n m p q hp hq)
        ∙ sum_over_ext m m _ _ (λ k l hk hl.
        ap (λ (u : ℕ). get_or pels ((n + 32) * (n + 32) + u) 0) (inside_square n (p * m) (q * m) k l)
        ∙ own_pel older newer b standing some first (omega arith) (p * m + k) (q * m + l) (omega arith) (omega arith))

    pub boxed : Boxed older newer b boxes
    boxed = record {
      filled = record {
        levels = record {
          window = λ m t c h. levels.window m t c h ∙ box_ext _ (n + 32) _ m t (λ p q hp hq. sym (kept _ (window_area m t p q c h hp hq)));
          own = λ m t c h. levels.own m t c h ∙ box_ext _ n _ m t (λ p q hp hq. sym (kept _ (own_area m t p q c h hp hq)));
        };
        window_small = λ m t c h.
            rw (levels.window m t c h, ← most_is m)
            (box_most _ (n + 32) 255 m t (λ p q hp hq. first_small _ (window_area m t p q c h hp hq)));
        own_small = λ m t c h.
            rw (levels.own m t c h, ← most_is m)
            (box_most _ n 255 m t (λ p q hp hq. first_small _ (own_area m t p q c h hp hq)));
      };
      older_square = older_is;
      newer_square = newer_is;
    }
