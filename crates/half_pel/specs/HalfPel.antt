-- 02, request 6, "Half a pel": a frame's values between its pels, by "the prediction rule of ISO/IEC 13818-2". Rows and columns are counted in half pels
-- here: row p and column q, both even, are the pel at row p / 2, column q / 2; an odd one lies between two pels.
--   between_two, between_four   "A value between two pels is (a + b + 1) / 2, between four (a + b + c + d + 2) / 4, rounded down"
--   half_pel      a frame's value at a half-pel place; value_of: of the pels there
--   Needs        the rows of pels that a half-pel row needs, and the columns that a half-pel column needs: its own, and the next where it is odd
--   HalfInside   all rows, or columns, that N places from a half-pel place on need lie inside a side, as a relation; half_inside: as a test
--   half_block    the block that stands at a half-pel place
--   HalfReady    a frame in which such a block has all pels that it needs
--   value_from    a value by the place of its first pel in the frame
--   half_rows     an array with a half-pel block in its first rows, 32 places to a row
use Rattle.std.specs.Prelude.{ℕ, ◌+◌, ◌*◌, ◌/◌, ◌%◌, ◌≤◌, ◌<◌, ◌≡◌, Bool, false, cond, List, leb, eqb, ℤ, pos, negsuc, length, get_or, ◌≤ℤ◌}
use Rattle.base.specs.Lists.{stored_rows}
use Rattle.signed.specs.Int.{up}
use Rattle.frame.specs.declared.Setting.{Setting}
use Rattle.frame.specs.Pictures.{pel, Fitting, largest_n}
use Rattle.distortion.specs.Blocks.{Block}

abbrev pub between_two : ℕ → ℕ → ℕ
between_two a b = (a + b + 1) / 2

abbrev pub between_four : ℕ → ℕ → ℕ → ℕ → ℕ
between_four a b c d = (a + b + c + d + 2) / 4

abbrev pub odd : ℕ → Bool
odd p = eqb (p % 2) 1

-- of a pel a, the next one b in its row, and c and d below them: by whether the place lies between two rows, and between two columns
unfoldable pub value_of : Bool → Bool → ℕ → ℕ → ℕ → ℕ → ℕ
value_of down across a b c d = cond down (cond across (between_four a b c d) (between_two a c)) (cond across (between_two a b) a)

unfoldable pub half_pel : List ℕ → ℕ → ℕ → ℕ → ℕ
half_pel frame width p q =
    let r = p / 2 in
    let c = q / 2 in
    value_of (odd p) (odd q) (pel frame width r c) (pel frame width r (c + 1)) (pel frame width (r + 1) c) (pel frame width (r + 1) (c + 1))

-- half-pel row p needs row r of pels: p / 2 rounded down, and rounded up
pub record Needs (p r : ℕ) : Type 0 where
  pub from : p / 2 ≤ r
  pub to : r ≤ (p + 1) / 2

-- "all pels it needs are inside": the n places z, z + 2, .. of a block, in a side of so many pels
pub record HalfInside (z : ℤ) (n side : ℕ) : Type 0 where
  pub from : pos 0 ≤ℤ z
  pub to : (i r : ℕ) → i < n → Needs (up z + 2 * i) r → r < side

-- n pels from z / 2 on, and one more where z is odd
abbrev pub half_inside : ℤ → ℕ → ℕ → Bool
half_inside (pos z) n side = leb (z / 2 + (n + z % 2)) side
half_inside (negsuc z) n side = false

abbrev pub half_block : List ℕ → ℕ → ℕ → ℕ → Block
half_block frame width p q i j = half_pel frame width (p + 2 * i) (q + 2 * j)

-- ---- as the code has them

pub record HalfReady (frame : List ℕ) (s : Setting) (p q : ℕ) : Type 0 where
  pub whole : length frame ≡ s.height * s.width
  pub fitting : Fitting s
  pub small : s.n ≤ largest_n
  pub down : p / 2 + (s.n + p % 2) ≤ s.height
  pub across : q / 2 + (s.n + q % 2) ≤ s.width

abbrev pub value_from : List ℕ → ℕ → Bool → Bool → ℕ → ℕ
value_from frame width down across at =
    value_of down across (get_or frame at 0) (get_or frame (at + 1) 0) (get_or frame (at + width) 0) (get_or frame (at + width + 1) 0)

abbrev pub half_rows : List ℕ → ℕ → ℕ → ℕ → List ℕ → ℕ → List ℕ
half_rows frame width p q half n = stored_rows (half_block frame width p q) n half 0 largest_n n
