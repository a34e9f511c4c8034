-- A block by its rows of squares.
--   stored         an array with the first p rows added up
--   first_inside   the first row lies inside the array, first_bound: and what it adds fits; block_bound: so does each
--   block_first    the first row, block_more: a further one
use Prim.Native.Nat.{ℕ, ◌+◌, ◌*◌, ◌≤◌, ◌<◌}
use mathlib.Core.Path.{◌≡◌, ap, ◌∙◌}
use mathlib.Core.List.{List}
use native.Mathlib.Nat.{zero-mul}
use native.Mathlib.Omega.{arith}
use lib.ListN.{length, get_or}
use Rattle.base.specs.Lists.{fill_to, fill_ext}
use Rattle.base.specs.Sum.{sum_to, sum_to_none, sum_to_more}
use Rattle.boxes.specs.declared.Level.{Level}
use Rattle.boxes.proofs.Filled.{filled_at, fill_again}
use Rattle.boxes.specs.Runs.{Inside}
use Rattle.pruned_wide.specs.Wide.{row_squares, Wide}
use Rattle.pruned_wide.proofs.Sums.{next_le}

module _ (boxes : List ℕ) (l : Level) (span : ℕ) where
  abbrev below : ℕ
  below = l.pitch * l.m

  abbrev under : ℕ
  under = l.n * l.m

  abbrev row : ℕ → ℕ → ℕ
  row t p = row_squares boxes (l.at + p * below + t) (l.own + p * under) l.m l.k

  abbrev rows : ℕ → ℕ → ℕ
  rows p t = sum_to (row t) p

  abbrev pub stored : List ℕ → ℕ → List ℕ
  stored d p = fill_to d 0 (rows p) span

  at_first : (x y : ℕ) → x + 0 * y ≡ x
  at_first x y = omega (arith, zero-mul y)

  row_first : (t : ℕ) → row t 0 ≡ row_squares boxes (l.at + t) l.own l.m l.k
  row_first t =
      ap (λ (u : ℕ). row_squares boxes (u + t) (l.own + 0 * under) l.m l.k) (at_first l.at below)
      ∙ ap (λ (u : ℕ). row_squares boxes (l.at + t) u l.m l.k) (at_first l.own under)

  module _ (d : List ℕ) where
    pub block_first : (xs : List ℕ) → xs ≡ fill_to d 0 (λ t. 0 + row_squares boxes (l.at + t) l.own l.m l.k) span → xs ≡ stored d 1
    block_first xs e = e ∙ fill_ext d 0 _ (rows 1) span (λ t ht. omega (arith, row_first t, sum_to_none (row t), sum_to_more (row t) 0))

    block_is : span ≤ length d → (p : ℕ) → fill_to (stored d p) 0 (λ t. get_or (stored d p) t 0 + row t p) span ≡ stored d (p + 1)
    block_is long p =
        fill_again d (rows p) _ span
        ∙ fill_ext d 0 _ (rows (p + 1)) span (λ t ht. omega (arith, filled_at d (rows p) span long t ht, sum_to_more (row t) p))

    pub block_more : span ≤ length d → (p : ℕ) (xs ys : List ℕ) → xs ≡ stored d p → ys ≡ fill_to xs 0 (λ t. get_or xs t 0 + row t p) span → ys ≡ stored d (p + 1)
    block_more long p xs ys e f = f ∙ ap (λ (zs : List ℕ). fill_to zs 0 (λ t. get_or zs t 0 + row t p) span) e ∙ block_is long p

  module _ (w : Wide boxes l span) where
    pub first_inside : 0 < l.k → Inside boxes l.at l.own l.m l.k span
    first_inside some = rw (at_first l.at below, at_first l.own under) at (w.rows 0 some)

    pub first_bound : 0 < l.k → (t : ℕ) → t < span → row_squares boxes (l.at + t) l.own l.m l.k ≤ 4294967295
    first_bound some t ht = omega (arith, row_first t, next_le (row t) 0 l.k some, w.wide t ht)

    pub block_bound : (d : List ℕ) → span ≤ length d → (p : ℕ) → p < l.k → (t : ℕ) → t < span → get_or (stored d p) t 0 + row t p ≤ 4294967295
    block_bound d long p h t ht = omega (arith, filled_at d (rows p) span long t ht, next_le (row t) p l.k h, w.wide t ht)
