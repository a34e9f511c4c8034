-- The rules for a head's numbers, and for what a block may be in a log with that head. 01, "What the input can be turned away for": "15 head that 1,
-- 3, 4 or 5 would turn away; 16 block vector no candidate, distortion below 0 or over 255 × N², or a still block as command 2".
-- 02, request 4: "16's largest distortion follows N and measure".
--   no_head         a head of zeros: what a refused call answers with
--   setting_in      the setting of a head
--   head_refusal    1 3 4 51 5: what turns head numbers away, be it width or height, N, the search, the measure or w
--   head_ok         they turn nothing away
--   head_blocks     how many blocks the head's grid has
--   largest_in      the largest distortion in a log with this head; largestLogged: in any log
--   candidate_ok    the vector is a candidate of window w for grid block k; distortionOk: 0 to the largest
--   entry_ok        both: what 16 asks of the three numbers of grid block k
--   is_still        a still block: (0,0) with distortion 0
use Rattle.std.specs.Prelude.{ℕ, suc, ◌*◌, ◌≤◌, ◌≡◌, refl, Bool, true, false, ◌&&◌, T, leb, eqb, ℤ, pos, negsuc, nat_abs}
use Rattle.std.proofs.Common.{sym, le_trans, mul-le-mul, arith, ne_eqb, leb→le}
use Rattle.base.specs.Tests.{and_left, and_right, le_both, true_T}
use Rattle.signed.specs.Int.{eq_z, up, dn}
use Rattle.measures.specs.Measures.{measure_ok, measure_of, squares, most_small}
use Rattle.order.specs.Vectors.{vec}
use Rattle.frame.specs.declared.Setting.{Setting}
use Rattle.frame.specs.Pictures.{setting, Fitting, largest_n}
use Rattle.frame.specs.Grid.{blocks, block_row, block_column}
use Rattle.frame.specs.Candidates.{candidate, candidate_yes}
use Rattle.refusals.specs.Refusals.{unless, side_ok, block_size_ok, block_ok, search_ok, window_ok, unless_zero, block_size, fitting, window_small}
use Rattle.log_head.specs.declared.Head.{Head}

abbrev pub no_head : Head
no_head = record { width = 0; height = 0; n = 0; w = 0; search = 0; measure = 0 }

abbrev pub setting_in : Head → Setting
setting_in h = setting h.width h.height h.n h.measure

unfoldable pub head_refusal : Head → ℕ
head_refusal h =
    unless (side_ok h.width && side_ok h.height) 1
    (unless (block_ok (setting_in h)) 3
    (unless (search_ok h.search) 4
    (unless (measure_ok h.measure) 51
    (unless (window_ok h.search h.w) 5 0))))

abbrev pub head_ok : Head → Bool
head_ok h = eqb (head_refusal h) 0

abbrev pub head_blocks : Head → ℕ
head_blocks h = blocks (setting_in h)

-- 255 × N², by squares 65,025 × N²
abbrev pub largest_in : Head → ℕ
largest_in h = h.n * (h.n * (measure_of h.measure).most)

abbrev pub largest_logged : ℕ
largest_logged = largest_n * (largest_n * squares.most)

abbrev pub distortion_ok : Head → ℤ → Bool
distortion_ok h (pos d) = leb d (largest_in h)
distortion_ok h (negsuc d) = false

abbrev pub candidate_ok : Setting → ℕ → ℕ → ℤ → ℤ → Bool
candidate_ok s w k dy dx = candidate s w (block_row s k) (block_column s k) (vec dy dx)

unfoldable pub entry_ok : Head → ℕ → ℤ → ℤ → ℤ → Bool
entry_ok h k dy dx distortion = candidate_ok (setting_in h) h.w k dy dx && distortion_ok h distortion

unfoldable pub is_still : ℤ → ℤ → ℤ → Bool
is_still dy dx distortion = eq_z dy (pos 0) && (eq_z dx (pos 0) && eq_z distortion (pos 0))

-- ---- what an accepted head may go by

-- its setting fits, all its numbers are small, and its measure is 1 or 2
pub record Headed (h : Head) : Type 0 where
  pub fitting : Fitting (setting_in h)
  pub size : h.n ≤ largest_n
  pub distortion : largest_in h ≤ largest_logged
  pub searching : h.search ≤ 4
  pub measure : (1 ≤ h.measure) × (h.measure ≤ 2)
  pub window : h.w ≤ 16

pub headed : (h : Head) → head_refusal h ≡ 0 → Headed h
unfolding head_refusal
headed h e =
    let a = unless_zero (side_ok h.width && side_ok h.height) 0 _ e in
    let b = unless_zero (block_ok (setting_in h)) 2 _ a.1 in
    let c = unless_zero (search_ok h.search) 3 _ b.1 in
    let m = unless_zero (measure_ok h.measure) 50 _ c.1 in
    let d = unless_zero (window_ok h.search h.w) 4 0 m.1 in
    let l = and_left (block_size_ok h.n) (leb h.n h.width && leb h.n h.height) b.0 in
    let small : h.n ≤ largest_n = (block_size h.n l).most in
    record {
      fitting = fitting (setting_in h) a.0 b.0;
      size = small;
      distortion = mul-le-mul small (mul-le-mul small (most_small h.measure));
      searching = (le_both 1 h.search h.search 4 c.0).1;
      measure = le_both 1 h.measure h.measure 2 m.0;
      window = window_small h.search h.w d.0;
    }

-- what an accepted block's numbers are
pub record Entry (dy dx distortion : ℤ) : Type 0 where
  pub down : nat_abs dy ≤ 16
  pub across : nat_abs dx ≤ 16
  pub above : dn distortion ≡ 0
  pub most : up distortion ≤ largest_logged

pub entry : (h : Head) → head_refusal h ≡ 0 → (k : ℕ) (dy dx distortion : ℤ) → entry_ok h k dy dx distortion ≡ true → Entry dy dx distortion
unfolding entry_ok
entry h e k dy dx distortion ok =
    let s = setting_in h in
    let g = headed h e in
    let test = candidate s h.w (block_row s k) (block_column s k) (vec dy dx) in
    let t = true_T (test && distortion_ok h distortion) ok in
    let c = candidate_yes s h.w (block_row s k) (block_column s k) (vec dy dx) (and_left test (distortion_ok h distortion) t) in
    let d = within distortion (and_right test (distortion_ok h distortion) t) in
    record {
      down = le_trans c.window.down g.window;
      across = le_trans c.window.across g.window;
      above = d.0;
      most = le_trans d.1 g.distortion;
    }
  where
    within : (z : ℤ) → T (distortion_ok h z) → (dn z ≡ 0) × (up z ≤ largest_in h)
    within (pos d) t = (refl, leb→le d (largest_in h) t)
    within (negsuc d) t = absurd t

pub zero_is : (z : ℤ) → eq_z z (pos 0) ≡ eqb (nat_abs z) 0
zero_is (pos n) = refl
zero_is (negsuc n) = sym (ne_eqb (suc n) 0 (λ e. omega arith))
