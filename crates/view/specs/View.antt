-- 01, "Row view": "Asked for side 0 (older) or 1 (newer), a row, a column and N, the call hands back N pels as the very part of that
-- frame, starting at that place. A refused call hands back an empty part".
--   view_refusal   the companion's number: 1 2 3 12 7, of a pair and N, the side, the N pels' place
--   view_place     where in its frame the part begins and how long it is
--   row_view       the pels of the part; part_start: where in memory it begins, so that it is the very part and no copy
use Rattle.std.specs.Prelude.{ℕ, ◌+◌, ◌*◌, ◌-◌, ◌≤◌, ◌<◌, ◌≡◌, refl, Bool, true, false, cond, ◌&&◌, List, [], leb, eqb, length, take, drop}
use Rattle.std.proofs.Common.{arith, leb→le, ne_eqb, eq-eqb, eqb-true}
use Rattle.base.specs.Tests.{le_both}
use Rattle.frame.specs.declared.Setting.{Setting}
use Rattle.view.specs.declared.RowView.{RowView}
use Rattle.frame.specs.Pictures.{Pair, row-inside}
use Rattle.refusals.specs.Refusals.{unless, first_refusal, unless_zero, first_refusal_zero, pair_refusal, Paired, paired}

-- 7 row view: the N pels not inside one row of the frame asked for
abbrev pub row_ok : Setting → ℕ → ℕ → Bool
row_ok s row column = leb (row + 1) s.height && leb (column + s.n) s.width

unfoldable pub view_refusal : ℕ → ℕ → Setting → ℕ → ℕ → ℕ → ℕ
view_refusal older newer s side row column =
    first_refusal (pair_refusal older newer s)
    (unless (leb side 1) 12
    (unless (row_ok s row column) 7 0))

-- the frame of the side
abbrev pub side_of : Pair → ℕ → List ℕ
side_of p side = cond (eqb side 0) p.older p.newer

abbrev pub refusal_at : Pair → ℕ → ℕ → ℕ → ℕ
refusal_at p side row column = view_refusal (length p.older) (length p.newer) p.setting side row column

unfoldable pub view_place : ℕ → ℕ → Setting → ℕ → ℕ → ℕ → RowView
view_place older newer s side row column =
    let refusal = view_refusal older newer s side row column in
    cond (eqb refusal 0)
    (record { refusal = 0; place = row * s.width + column; length = s.n })
    (record { refusal = refusal; place = 0; length = 0 })

unfoldable pub row_view : Pair → ℕ → ℕ → ℕ → List ℕ
row_view p side row column =
    cond (eqb (refusal_at p side row column) 0) (take p.setting.n (drop (row * p.setting.width + column) (side_of p side))) []

-- a start in memory is a block of memory and an offset in it: those of the two frames are given, and the part begins `place` pels on in the frame asked for
abbrev pub part_start : (older newer : ℕ × ℕ) → ℕ → ℕ → ℕ × ℕ
part_start older newer side place = let start = cond (eqb side 0) older newer in (start.0, start.1 + place)

-- ---- what an accepted view may go by

pub record Viewed (older newer : ℕ) (s : Setting) (side row column : ℕ) : Type 0 where
  pub paired : Paired older newer s
  pub known : side ≤ 1
  pub down : row < s.height
  pub across : column + s.n ≤ s.width
  pub ends : row * s.width + column + s.n ≤ s.height * s.width

pub viewed : (older newer : ℕ) (s : Setting) (side row column : ℕ) → view_refusal older newer s side row column ≡ 0 → Viewed older newer s side row column
unfolding view_refusal
viewed older newer s side row column e =
    let a = first_refusal_zero (pair_refusal older newer s) _ e in
    let b = unless_zero (leb side 1) 11 _ a.1 in
    let c = le_both (row + 1) s.height (column + s.n) s.width (unless_zero (row_ok s row column) 6 0 b.1).0 in
    record {
      paired = paired older newer s a.0;
      known = leb→le side 1 b.0;
      down = omega arith;
      across = c.1;
      ends = row-inside s row column s.n (omega arith) c.1;
    }

-- ---- the part that a place names, refused or not

module _ (p : Pair) (side row column : ℕ) where
  abbrev answer : Bool → RowView
  answer b =
      cond b (record { refusal = 0; place = row * p.setting.width + column; length = p.setting.n })
      (record { refusal = refusal_at p side row column; place = 0; length = 0 })

  answer_ends : (b : Bool) → eqb (refusal_at p side row column) 0 ≡ b
      → ((answer b).place + (answer b).length ≤ length p.older) × ((answer b).place + (answer b).length ≤ length p.newer)
  answer_ends true e = let i = viewed _ _ p.setting side row column (eqb-true _ 0 e) in (omega arith, omega arith)
  answer_ends false e = (omega arith, omega arith)

  part_is : (b : Bool) (f : List ℕ)
      → take (answer b).length (drop (answer b).place f) ≡ cond b (take p.setting.n (drop (row * p.setting.width + column) f)) []
  part_is true f = refl
  part_is false f = refl

  -- v is what `view_place` says
  module _ (v : RowView) (is : v ≡ view_place (length p.older) (length p.newer) p.setting side row column) where
    -- it ends inside either frame
    pub view_ends : (v.place + v.length ≤ length p.older) × (v.place + v.length ≤ length p.newer)
    unfolding view_place
    view_ends = rw is (answer_ends (eqb (refusal_at p side row column) 0) refl)

    -- the row view is the part of its frame that the place names
    pub view_part : take v.length (drop v.place (side_of p side)) ≡ row_view p side row column
    unfolding view_place row_view
    view_part = rw is (part_is (eqb (refusal_at p side row column) 0) (side_of p side))

    -- the same, as `row_view` cuts it: from the place to the end
    cut : v.place + v.length - v.place ≡ v.length
    cut = omega arith

    pub view_older : side ≡ 0 → take (v.place + v.length - v.place) (drop v.place p.older) ≡ row_view p side row column
    view_older z = rw cut (rw (eq-eqb side 0 z) at view_part)

    pub view_newer : (side ≡ 0 → ⊥) → take (v.place + v.length - v.place) (drop v.place p.newer) ≡ row_view p side row column
    view_newer z = rw cut (rw (ne_eqb side 0 z) at view_part)
