-- 01, "Pictures, blocks, vectors": "A vector (dy, dx) compares the newer frame's block at row y, column x with the older frame's block at
-- (y + dy, x + dx). It is a candidate for window w if both parts lie in -w..w and the older block is wholly inside its frame."
--   older_row, older_column   y + dy and x + dx, where they are not below 0
--   Inside, inside          N pels from a place on lie in a side of the frame, as a relation and as a test
--   Candidate, candidate    a candidate, as a relation and as a test
--   older_at                 where the older block of a candidate stands; part_at: the same of a row or a column alone
-- The block stands at any row y and column x, on the grid or off it.
use Rattle.std.specs.Prelude.{ℕ, ◌+◌, ◌-◌, ◌≤◌, ◌<◌, Bool, ◌&&◌, ℤ, pos, negsuc, nat_abs, ◌+ℤ◌, ◌≤ℤ◌, Option, Some, None, is_some, unwrap_or}
use Rattle.std.proofs.Math.Path.{◌≡◌, refl, ap, sym}
use Rattle.std.proofs.Math.Bool.{true, false, cond}
use Rattle.std.proofs.Math.Nat.{le_trans}
use Rattle.std.proofs.Common.{arith}
use Rattle.std.proofs.Math.Dec.{T, leb, leb→le, le→leb}
use Rattle.std.specs.Int.Signed.{le_z_yes}
use Rattle.std.proofs.lemmas.Bool.{lt-leb}
use Rattle.base.specs.Tests.{and_left, and_right, and_both, iff_test}
use Rattle.signed.specs.Int.{up, dn, added}
use Rattle.order.specs.declared.Vector.{Vector}
use Rattle.order.specs.Vectors.{vec, Within, in_window, within_yes, within_true}
use Rattle.frame.specs.declared.Setting.{Setting}
use Rattle.signed.specs.Values.{at_place, shifted_by}

abbrev pub older_row : ℕ → Vector → ℕ
older_row y v = up (pos y +ℤ v.dy)

abbrev pub older_column : ℕ → Vector → ℕ
older_column x v = up (pos x +ℤ v.dx)

-- n pels from place z on lie in a side of so many pels
pub record Inside (z : ℤ) (n side : ℕ) : Type 0 where
  pub from : pos 0 ≤ℤ z
  pub to : (z +ℤ pos n) ≤ℤ pos side

pub record Candidate (s : Setting) (w y x : ℕ) (v : Vector) : Type 0 where
  pub window : Within w v
  pub down : Inside (pos y +ℤ v.dy) s.n s.height
  pub across : Inside (pos x +ℤ v.dx) s.n s.width

abbrev pub inside : ℤ → ℕ → ℕ → Bool
inside (pos a) n side = leb (a + n) side
inside (negsuc a) n side = false

-- the block at row r, column c lies wholly inside the frame
abbrev pub block_inside : Setting → ℤ → ℤ → Bool
block_inside s r c = inside r s.n s.height && inside c s.n s.width

unfoldable pub candidate : Setting → ℕ → ℕ → ℕ → Vector → Bool
candidate s w y x v = in_window w v && block_inside s (pos y +ℤ v.dy) (pos x +ℤ v.dx)

unfoldable pub older_at : Setting → ℕ → ℕ → ℕ → Vector → Option (ℕ × ℕ)
older_at s w y x v = cond (candidate s w y x v) (Some (older_row y v, older_column x v)) None

-- ---- the relation and the test say the same

inside_yes : (z : ℤ) (n side : ℕ) → T (inside z n side) → Inside z n side
inside_yes (pos a) n side t = record { from = le_z_yes (le→leb 0 a (omega arith)); to = le_z_yes t }
inside_yes (negsuc a) n side t = absurd t

inside_true : (z : ℤ) (n side : ℕ) → Inside z n side → T (inside z n side)
inside_true (pos a) n side i = i.to.le
inside_true (negsuc a) n side i = absurd i.from.le

inside_up : (z : ℤ) (n side : ℕ) → T (inside z n side) → (up z + n ≤ side) × (dn z ≡ 0)
inside_up (pos a) n side t = (leb→le (a + n) side t, refl)
inside_up (negsuc a) n side t = absurd t

-- z is the place a, from which on n pels lie in the side
inside_at : (z : ℤ) (n side a : ℕ) → up z ≡ a + dn z → a + n ≤ side → T (inside z n side)
inside_at (pos b) n side a e h = le→leb (b + n) side (omega arith)
inside_at (negsuc b) n side a e h = absurd (omega arith)

-- what a candidate's older block is, in plain numbers
pub record OlderInside (s : Setting) (w y x : ℕ) (v : Vector) : Type 0 where
  pub window : Within w v
  pub down : older_row y v + s.n ≤ s.height
  pub across : older_column x v + s.n ≤ s.width
  pub row : older_row y v + dn v.dy ≡ y + up v.dy
  pub column : older_column x v + dn v.dx ≡ x + up v.dx

module _ (s : Setting) (w y x : ℕ) (v : Vector) where
  abbrev row_inside : Bool
  row_inside = inside (pos y +ℤ v.dy) s.n s.height

  abbrev column_inside : Bool
  column_inside = inside (pos x +ℤ v.dx) s.n s.width

  pub candidate_yes : T (candidate s w y x v) → Candidate s w y x v
  unfolding candidate
  candidate_yes t =
      let i = and_right (in_window w v) (row_inside && column_inside) t in
      record {
        window = within_yes w v (and_left (in_window w v) (row_inside && column_inside) t);
        down = inside_yes (pos y +ℤ v.dy) s.n s.height (and_left row_inside column_inside i);
        across = inside_yes (pos x +ℤ v.dx) s.n s.width (and_right row_inside column_inside i);
      }

  pub candidate_true : Candidate s w y x v → T (candidate s w y x v)
  unfolding candidate
  candidate_true c =
      and_both (in_window w v) (row_inside && column_inside) (within_true w v c.window)
      (and_both row_inside column_inside (inside_true (pos y +ℤ v.dy) s.n s.height c.down)
      (inside_true (pos x +ℤ v.dx) s.n s.width c.across))

  pub candidate_older : T (candidate s w y x v) → OlderInside s w y x v
  unfolding candidate
  candidate_older t =
      let i = and_right (in_window w v) (row_inside && column_inside) t in
      let d = inside_up (pos y +ℤ v.dy) s.n s.height (and_left row_inside column_inside i) in
      let a = inside_up (pos x +ℤ v.dx) s.n s.width (and_right row_inside column_inside i) in
      record {
        window = within_yes w v (and_left (in_window w v) (row_inside && column_inside) t);
        down = d.0;
        across = a.0;
        row = omega (arith, added (pos y) v.dy);
        column = omega (arith, added (pos x) v.dx);
      }

  -- a vector whose older block stands at row r, column c inside the frame
  pub candidate_at : (r c : ℕ) → Within w v → r + dn v.dy ≡ y + up v.dy → r + s.n ≤ s.height → c + dn v.dx ≡ x + up v.dx → c + s.n ≤ s.width
      → T (candidate s w y x v)
  unfolding candidate
  candidate_at r c near er hr ec hc =
      and_both (in_window w v) (row_inside && column_inside) (within_true w v near)
      (and_both row_inside column_inside
      (inside_at (pos y +ℤ v.dy) s.n s.height r (omega (arith, added (pos y) v.dy)) hr)
      (inside_at (pos x +ℤ v.dx) s.n s.width c (omega (arith, added (pos x) v.dx)) hc))

  -- a candidate of a window is one of each wider window
  pub candidate_wider : (u : ℕ) → w ≤ u → T (candidate s w y x v) → T (candidate s u y x v)
  unfolding candidate
  candidate_wider u h t =
      let near = within_yes w v (and_left (in_window w v) (row_inside && column_inside) t) in
      and_both (in_window u v) (row_inside && column_inside)
      (within_true u v (record { down = le_trans near.down h; across = le_trans near.across h }))
      (and_right (in_window w v) (row_inside && column_inside) t)

-- "(0,0) always is one", of a block that is wholly inside
pub still_candidate : (s : Setting) (w y x : ℕ) → y + s.n ≤ s.height → x + s.n ≤ s.width → T (candidate s w y x (vec (pos 0) (pos 0)))
still_candidate s w y x hy hx =
    candidate_at s w y x (vec (pos 0) (pos 0)) y x (record { down = omega arith; across = omega arith }) (omega arith) hy (omega arith) hx

-- ---- a row or a column alone

-- at + d, where d lies in -w..w and n pels from there on lie in a side of so many
unfoldable pub part_at : ℕ → ℤ → ℕ → ℕ → ℕ → Option ℕ
part_at at d w n side = cond (leb (nat_abs d) w && inside (pos at +ℤ d) n side) (Some (up (pos at +ℤ d))) None

abbrev pub joined : Option ℕ → Option ℕ → Option (ℕ × ℕ)
joined (Some r) (Some c) = Some (r, c)
joined (Some r) None = None
joined None c = None

-- a candidate is one by its row and by its column
pub older_parts : (s : Setting) (w y x : ℕ) (v : Vector) → older_at s w y x v
    ≡ joined (part_at y v.dy w s.n s.height) (part_at x v.dx w s.n s.width)
unfolding older_at candidate part_at
older_parts s w y x v =
    go (leb (nat_abs v.dy) w) (leb (nat_abs v.dx) w) (inside (pos y +ℤ v.dy) s.n s.height) (inside (pos x +ℤ v.dx) s.n s.width)
  where
    go : (a b c d : Bool) → cond {A = Option (ℕ × ℕ)} ((a && b) && (c && d)) (Some (older_row y v, older_column x v)) None
        ≡ joined (cond (a && c) (Some (older_row y v)) None) (cond (b && d) (Some (older_column x v)) None)
    go false b c d = refl
    go true false true d = refl
    go true false false d = refl
    go true true false d = refl
    go true true true false = refl
    go true true true true = refl

module _ (at : ℕ) (d : ℤ) (w n side : ℕ) where
  pub part_far : leb (nat_abs d) w ≡ false → part_at at d w n side ≡ None
  unfolding part_at
  part_far e = rw e refl

  pub part_wide : leb (nat_abs d) w ≡ true → side < n → part_at at d w n side ≡ None
  unfolding part_at
  part_wide e h = rw e (none (pos at +ℤ d))
    where
      none : (z : ℤ) → cond (inside z n side) (Some (up z)) None ≡ None
      none (pos a) = rw (lt-leb (a + n) side (omega arith)) refl
      none (negsuc a) = refl

  pub part_shifted : leb (nat_abs d) w ≡ true → n ≤ side → part_at at d w n side ≡ shifted_by at d (side - n)
  unfolding part_at shifted_by
  part_shifted e h = rw e (same (pos at +ℤ d))
    where
      fits : (a : ℕ) → leb (a + n) side ≡ leb a (side - n)
      fits a =
          iff_test (leb (a + n) side) (leb a (side - n)) (λ t. le→leb a (side - n) (omega (arith, leb→le (a + n) side t)))
          (λ t. le→leb (a + n) side (omega (arith, leb→le a (side - n) t)))

      same : (z : ℤ) → cond (inside z n side) (Some (up z)) None ≡ at_place z (side - n)
      same (pos a) = rw (fits a) refl
      same (negsuc a) = refl

-- ---- what an answer says

module _ (s : Setting) (w y x : ℕ) (v : Vector) where
  pub older_is : (r c : ℕ) → older_at s w y x v ≡ Some (r, c) → T (candidate s w y x v) × (r ≡ older_row y v) × (c ≡ older_column x v)
  unfolding older_at
  older_is r c = go (candidate s w y x v)
    where
      go : (b : Bool) → cond {A = Option (ℕ × ℕ)} b (Some (older_row y v, older_column x v)) None ≡ Some (r, c) → T b × (r ≡ older_row y v) × (c ≡ older_column x v)
      go true e = (tt, sym (ap (λ o. (unwrap_or {T = ℕ × ℕ} o (0, 0)).0) e), sym (ap (λ o. (unwrap_or {T = ℕ × ℕ} o (0, 0)).1) e))
      go false e = let z : ◌≡◌ {A = ℕ} 0 1 = cc in absurd (omega arith)

  pub older_no : older_at s w y x v ≡ None → candidate s w y x v ≡ false
  unfolding older_at
  older_no = go (candidate s w y x v)
    where
      go : (b : Bool) → cond {A = Option (ℕ × ℕ)} b (Some (older_row y v, older_column x v)) None ≡ None → b ≡ false
      go true e = let z : ◌≡◌ {A = ℕ} 0 1 = cc in absurd (omega arith)
      go false e = refl

  pub older_some : is_some (older_at s w y x v) ≡ candidate s w y x v
  unfolding older_at
  older_some = go (candidate s w y x v)
    where
      go : (b : Bool) → is_some (cond {A = Option (ℕ × ℕ)} b (Some (older_row y v, older_column x v)) None) ≡ b
      go true = refl
      go false = refl
