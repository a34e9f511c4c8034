-- Rows of numbers, and how many of them are within a limit.
--   row_room         a row lies in the array; place_small: where it begins is no large number
--   kept_row         how many of a list by a rule are within a limit; kept_lists: of lists one behind the other; kept_in_row: of a row; kept_all: of all
--   number-on        the number on the spot of a row and a column of the region
use Prim.Native.Nat.{ℕ, zero, suc, ◌+◌, ◌*◌, ◌-◌, ◌≤◌, ◌<◌}
use mathlib.Core.Path.{◌≡◌, refl, sym, ap, ap₂, ◌∙◌}
use mathlib.Core.Bool.{Bool, true, false, cond}
use mathlib.Core.List.{List, [], ◌∷◌}
use native.Mathlib.Nat.{mul-le-mul, le_refl}
use native.Mathlib.Omega.{arith}
use lib.Dec.{leb}
use lib.ListN.{length, get_or, length-append}
use Rattle.base.specs.Sum.{sum_to, sum_to_ext}
use Rattle.base.specs.Lists.{list_to, concat_to}
use Rattle.base.specs.Tests.{one}
use Rattle.frame.specs.declared.Region.{Region}
use Rattle.pruned_rule.specs.Sift.{kept}
use Rattle.pruned_rule.specs.Spots.{spots}
use Rattle.pruned_rule.proofs.Loops.{kept_append}
use Rattle.pruned_rule.proofs.Spots.{spot_row, spot_column}
use Rattle.pruned_sift.specs.Laid.{Laid, number_on, row_spots, within}

module _ {numbers : List ℕ} {pitch : ℕ} {r : Region} (l : Laid numbers pitch r) where
  pub row_room : (i : ℕ) → i < r.rows → pitch * i + r.columns ≤ length numbers
  row_room i h =
      let e : i ≤ r.rows - 1 = omega arith in
      omega (arith, l.room, mul-le-mul (le_refl pitch) e)

  pub place_small : (i : ℕ) → i < r.rows → pitch * i ≤ 2112
  place_small i h =
      let e : i ≤ 33 = omega (arith, l.around.few_rows) in
      mul-le-mul l.narrow e

-- ---- how many

kept_one : (v : ℕ → ℕ) (l t : ℕ) → length (kept v l (t ∷ [])) ≡ one (leb (v t) l)
unfolding kept
kept_one v l t = go (leb (v t) l)
  where
    go : (b : Bool) → length (cond b (t ∷ []) []) ≡ cond b 1 0
    go true = refl
    go false = refl

pub kept_row : (v : ℕ → ℕ) (l : ℕ) (g : ℕ → ℕ) (n : ℕ) → length (kept v l (list_to g n)) ≡ sum_to (λ j. one (leb (v (g j)) l)) n
unfolding list_to sum_to kept
kept_row v l g zero = refl
kept_row v l g (suc n) =
    rw kept_append (length-append (kept v l (list_to g n)) (kept v l (g n ∷ [])) ∙ ap₂ ◌+◌ (kept_row v l g n) (kept_one v l (g n)))

pub kept_lists : (v : ℕ → ℕ) (l : ℕ) (f : ℕ → List ℕ) (n : ℕ) → length (kept v l (concat_to f n)) ≡ sum_to (λ i. length (kept v l (f i))) n
unfolding concat_to sum_to kept
kept_lists v l f zero = refl
kept_lists v l f (suc n) =
    rw kept_append (length-append (kept v l (concat_to f n)) (kept v l (f n)) ∙ ap (λ (m : ℕ). m + length (kept v l (f n))) (kept_lists v l f n))

-- the number on the spot of row i, column j of the region
pub number-on : (numbers : List ℕ) (pitch : ℕ) (r : Region) (i j : ℕ) → r.left + r.columns ≤ 33 → j < r.columns
    → number_on numbers pitch r (64 * (r.top + i) + (r.left + j)) ≡ get_or numbers (pitch * i + j) 0
number-on numbers pitch r i j few h =
    let small : r.left + j < 64 = omega arith in
    let p : r.top + i - r.top ≡ i = omega arith in
    let q : r.left + j - r.left ≡ j = omega arith in
    rw (spot_row (r.top + i) (r.left + j) small, spot_column (r.top + i) (r.left + j) small, p, q)

-- those of a row that are within
pub kept_in_row : (numbers : List ℕ) (pitch : ℕ) (r : Region) (most i : ℕ) → r.left + r.columns ≤ 33
    → sum_to (λ j. one (leb (get_or numbers (pitch * i + j) 0) most)) r.columns ≡ length (within numbers pitch r most (row_spots r i))
kept_in_row numbers pitch r most i few =
    sym (kept_row (number_on numbers pitch r) most _ r.columns
    ∙ sum_to_ext _ _ r.columns (λ j h. ap (λ (d : ℕ). one (leb d most)) (number-on numbers pitch r i j few h)))

pub kept_all : (numbers : List ℕ) (pitch : ℕ) (r : Region) (most : ℕ)
    → sum_to (λ i. length (within numbers pitch r most (row_spots r i))) r.rows ≡ length (within numbers pitch r most (spots r))
unfolding spots
kept_all numbers pitch r most = sym (kept_lists (number_on numbers pitch r) most (row_spots r) r.rows)
