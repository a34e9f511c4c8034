-- The vectors of the rows and columns in reach are the block's candidates, and so many there are.
--   ready_standing   a block that is ready to be searched
--   reach_bounds     rows and columns of window 16, the middle ones among them, whose older blocks lie wholly inside the frame: Bounds
--   reach_small      each is below 33
--   reach_yes        what stands there is a candidate; reach_in: nothing else is; reach_all: each candidate stands there
--   older-at         where the older block of a row and column stands
--   sum_span         a sum whose terms are 0 but for some in a row
--   reach_count      how many candidates there are
use Prim.Native.Nat.{ℕ, ◌+◌, ◌*◌, ◌-◌, ◌≤◌, ◌<◌, min}
use mathlib.Core.Path.{◌≡◌, refl, ap, ap₂, subst, ◌∙◌}
use mathlib.Core.Bool.{Bool, true, false, cond}
use mathlib.Core.List.{List}
use native.Mathlib.Nat.{le_trans, mul-one}
use native.Mathlib.Omega.{arith}
use lib.Dec.{T}
use lib.IntN.{ℤ, pos, nat_abs}
use lib.ListN.{length}
use Rattle.base.specs.Tests.{T_true, true_T}
use Rattle.base.specs.Sum.{sum_to, sum_to_ext, sum_to_zero, sum_to_const, sum_to_cut}
use Rattle.signed.specs.Int.{up, dn, parts, same, added}
use Rattle.signed.specs.Values.{bias, unbias, bias_is, unbias_is}
use Rattle.order.specs.declared.Vector.{Vector}
use Rattle.order.specs.Vectors.{vec, Within}
use Rattle.frame.specs.declared.SearchBlock.{SearchBlock}
use Rattle.frame.specs.declared.Region.{Region}
use Rattle.frame.specs.Candidates.{older_row, older_column, candidate, candidate_older, candidate_at}
use Rattle.search.specs.Exhaustive.{places, grid_vector, candidates}
use Rattle.search.specs.Target.{Ready}
use Rattle.search.proofs.Counted.{places_counted}
use Rattle.reach.specs.Reach.{Standing, reach, InReach}

pub record Bounds (b : SearchBlock) (r : Region) : Type 0 where
  pub rows : 0 < r.rows
  pub columns : 0 < r.columns
  pub few_rows : r.top + r.rows ≤ 33
  pub few_columns : r.left + r.columns ≤ 33
  pub above : r.top ≤ 16
  pub below : 16 < r.top + r.rows
  pub before : r.left ≤ 16
  pub behind : 16 < r.left + r.columns
  pub first_row : 16 ≤ b.y + r.top
  pub last_row : b.y + r.top + r.rows + b.setting.n ≤ b.setting.height + 17
  pub first_column : 16 ≤ b.x + r.left
  pub last_column : b.x + r.left + r.columns + b.setting.n ≤ b.setting.width + 17

-- a block that is ready to be searched
pub ready_standing : (older newer : List ℕ) (b : SearchBlock) → Ready older newer b → Standing b
ready_standing older newer b r =
    let p = r.placed in
    record { down = p.down; across = p.across; high = p.paired.fitting.high; wide = p.paired.fitting.wide; window = r.window }

-- where the older block of row i, column j of window 16 stands
pub older-at : (y x i j : ℕ) → 16 ≤ y + i → 16 ≤ x + j → (older_row y (grid_vector i j) ≡ y + i - 16) × (older_column x (grid_vector i j) ≡ x + j - 16)
older-at y x i j hy hx =
    (omega (arith, added (pos y) (unbias 16 i), unbias_is 16 i), omega (arith, added (pos x) (unbias 16 j), unbias_is 16 j))

-- ---- rows alone, or columns: i stands in reach where (i - 16) is a candidate's part

part_near : (w i : ℕ) → (16 ≤ i + w) × (i ≤ 16 + w) → nat_abs (unbias 16 i) ≤ w
part_near w i h = omega (arith, unbias_is 16 i, parts (unbias 16 i))

part_moved : (at i : ℕ) → 16 ≤ at + i → at + i - 16 + dn (unbias 16 i) ≡ at + up (unbias 16 i)
part_moved at i h = omega (arith, unbias_is 16 i)

module _ (at w n side i : ℕ) (fits : at + n ≤ side) (small : w ≤ 16) where
  -- i stands in reach
  abbrev Reached : Type 0
  Reached = (16 - min at w ≤ i) × (i < 16 - min at w + (min at w + min w (side - n - at) + 1))

  -- i - 16 is within the window, and the older block stands at a place r inside the frame
  abbrev Part : ℕ → Type 0
  Part r = (nat_abs (unbias 16 i) ≤ w) × (r + dn (unbias 16 i) ≡ at + up (unbias 16 i)) × (r + n ≤ side)

  part_yes : Reached → Part (at + i - 16)
  part_yes h =
      let near : (16 ≤ i + w) × (i ≤ 16 + w) = omega arith in
      let inside : (16 ≤ at + i) × (at + i + n ≤ side + 16) = omega arith in
      (part_near w i near, part_moved at i inside.0, omega (arith, inside))

  part_in : (r : ℕ) → Part r → Reached
  part_in r p =
      let near : (16 ≤ i + w) × (i ≤ 16 + w) = omega (arith, unbias_is 16 i, parts (unbias 16 i)) in
      let inside : r + 16 ≡ at + i = omega (arith, unbias_is 16 i) in
      (omega arith, omega arith)

-- a sum of n terms that are 0 but for the m from place a on
pub sum_span : (f : ℕ → ℕ) (n a m : ℕ) → a + m ≤ n → ((i : ℕ) → (a ≤ i → i < a + m → ⊥) → f i ≡ 0) → sum_to f n ≡ sum_to (λ i. f (a + i)) m
sum_span f n a m h outside =
    let none = sum_to_zero f a (λ i l. outside i (λ p q. omega arith)) in
    let rest = sum_to_zero (λ i. f (a + m + i)) (n - (a + m)) (λ i l. outside (a + m + i) (λ p q. omega arith)) in
    ap (sum_to f) (omega arith) ∙ sum_to_cut f (a + m) (n - (a + m)) ∙ omega (arith, sum_to_cut f a m)

module _ (b : SearchBlock) (s : Standing b) where
  -- a candidate, as a test
  abbrev passes : Vector → Bool
  passes v = candidate b.setting b.w b.y b.x v

  pub reach_bounds : Bounds b (reach b)
  unfolding reach
  reach_bounds = record {
    rows = omega arith;
    columns = omega arith;
    few_rows = omega (arith, s.window);
    few_columns = omega (arith, s.window);
    above = omega arith;
    below = omega (arith, s.window);
    before = omega arith;
    behind = omega (arith, s.window);
    first_row = omega (arith, s.window);
    last_row = omega (arith, s.down, s.window);
    first_column = omega (arith, s.window);
    last_column = omega (arith, s.across, s.window);
  }

  pub reach_small : (i j : ℕ) → InReach (reach b) i j → (i < 33) × (j < 33)
  reach_small i j h = (omega (arith, h.bottom, reach_bounds.few_rows), omega (arith, h.right, reach_bounds.few_columns))

  pub reach_yes : (i j : ℕ) → InReach (reach b) i j → T (candidate b.setting b.w b.y b.x (grid_vector i j))
  unfolding reach
  reach_yes i j h =
      let d = part_yes b.y b.w b.setting.n b.setting.height i s.down s.window (h.top, h.bottom) in
      let a = part_yes b.x b.w b.setting.n b.setting.width j s.across s.window (h.left, h.right) in
      candidate_at b.setting b.w b.y b.x (grid_vector i j) (b.y + i - 16) (b.x + j - 16)
      (record { down = d.0; across = a.0 }) d.1 d.2 a.1 a.2

  pub reach_in : (i j : ℕ) → T (candidate b.setting b.w b.y b.x (grid_vector i j)) → InReach (reach b) i j
  unfolding reach
  reach_in i j t =
      let o = candidate_older b.setting b.w b.y b.x (grid_vector i j) t in
      let d = part_in b.y b.w b.setting.n b.setting.height i s.down s.window _ (o.window.down, o.row, o.down) in
      let a = part_in b.x b.w b.setting.n b.setting.width j s.across s.window _ (o.window.across, o.column, o.across) in
      record { top = d.0; bottom = d.1; left = a.0; right = a.1 }

  pub reach_all : (v : Vector) → T (candidate b.setting b.w b.y b.x v) → (i : ℕ) × (j : ℕ) × InReach (reach b) i j × (v ≡ grid_vector i j)
  reach_all v t =
      (bias 16 v.dy, bias 16 v.dx, reach_in _ _ (subst (λ u. T (passes u)) here t), here)
    where
      near : Within b.w v
      near = (candidate_older b.setting b.w b.y b.x v t).window

      back : (d : ℤ) → nat_abs d ≤ b.w → d ≡ unbias 16 (bias 16 d)
      back d l = same d (unbias 16 (bias 16 d)) (omega (arith, bias_is 16 d (le_trans l s.window), unbias_is 16 (bias 16 d)))

      here : v ≡ grid_vector (bias 16 v.dy) (bias 16 v.dx)
      here = ap₂ vec (back v.dy near.down) (back v.dx near.across)

  pub reach_count : length (places b.setting b.w b.y b.x) ≡ (reach b).rows * (reach b).columns
  unfolding candidates
  reach_count =
      places_counted b.setting b.w b.y b.x
      ∙ sum_span _ 33 r.top r.rows k.few_rows (λ i n. sum_to_zero _ 33 (λ j hj. outside i j (λ q. n q.top q.bottom)))
      ∙ sum_to_ext _ (λ i. r.columns) r.rows (λ i hi.
      sum_span _ 33 r.left r.columns k.few_columns (λ j n. outside _ j (λ q. n q.left q.right))
      ∙ sum_to_ext _ (λ j. 1) r.columns (λ j hj.
      let q : InReach (reach b) (r.top + i) (r.left + j) = record { top = omega arith; bottom = omega arith; left = omega arith; right = omega arith } in
      ap (λ t. cond t 1 0) (T_true (passes _) (reach_yes (r.top + i) (r.left + j) q)))
      ∙ sum_to_const 1 r.columns
      ∙ mul-one r.columns)
      ∙ sum_to_const r.columns r.rows
    where
      r : Region
      r = reach b

      k : Bounds b r
      k = reach_bounds

      outside : (i j : ℕ) → (InReach (reach b) i j → ⊥) → cond {A = ℕ} (passes (grid_vector i j)) 1 0 ≡ 0
      outside i j n = go (passes (grid_vector i j)) refl
        where
          go : (t : Bool) → passes (grid_vector i j) ≡ t → cond {A = ℕ} t 1 0 ≡ 0
          go true e = absurd (n (reach_in i j (true_T _ e)))
          go false e = refl
