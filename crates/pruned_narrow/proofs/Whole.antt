-- A block by its rows of squares, and from what the older squares have more to the distance.
--   block_first   before the first row, block_more: a row
--   block_bound   what a row adds fits
--   turn_fits     what the last loop computes fits, turn_is: and is the distance
use Prim.Native.Nat.{ℕ, ◌+◌, ◌-◌, ◌*◌, ◌≤◌, ◌<◌}
use mathlib.Core.Path.{◌≡◌, sym, ap, ◌∙◌}
use mathlib.Core.List.{List}
use native.Mathlib.Omega.{arith}
use lib.ListN.{length, get_or, replicate, get_or-replicate, length-replicate}
use Rattle.base.specs.Lists.{fill_to, fill_ext}
use Rattle.base.specs.Sum.{sum_to, sum_to_none, sum_to_more, sum_to_mono}
use Rattle.boxes.specs.declared.Level.{Level}
use Rattle.boxes.proofs.Filled.{filled_at, fill_again, prefix_le}
use Rattle.boxes.specs.Runs.{places}
use Rattle.pruned_narrow.specs.Narrow.{row_sum, row_more, turned, distance_of, Squared}
use Rattle.pruned_narrow.proofs.Sums.{fill_same, minus_le, more_le, less_le, absolute_is}

-- what rows are added to at first
abbrev pub zeros : List ℕ
zeros = replicate places 0

module _ (boxes : List ℕ) (l : Level) (k at own : ℕ) (w : Level) (size : ℕ) (few : size ≤ places) (squared : Squared boxes l k at own w size) where
  long : size ≤ length zeros
  long = rw (length-replicate {A = ℕ} places 0) few

  abbrev below : ℕ
  below = l.pitch * l.m

  abbrev under : ℕ
  under = l.n * l.m

  abbrev older : ℕ → ℕ → ℕ → ℕ
  older t p q = get_or boxes (l.at + at + p * below + t + l.m * q) 0

  abbrev newer : ℕ → ℕ → ℕ
  newer p q = get_or boxes (l.own + own + p * under + l.m * q) 0

  abbrev rows : ℕ → ℕ → ℕ
  rows p t = sum_to (λ r. sum_to (λ q. older t r q - newer r q) k) p

  abbrev pub stored : ℕ → List ℕ
  stored p = fill_to zeros 0 (rows p) size

  pub block_first : zeros ≡ stored 0
  block_first = fill_same zeros (rows 0) size long (λ t h. sum_to_none (λ r. sum_to (λ q. older t r q - newer r q) k) ∙ sym (get_or-replicate places t 0 0 (omega arith)))

  pub block_bound : (p : ℕ) → p < k → (t : ℕ) → t < size → get_or (stored p) t 0 + row_sum boxes (l.at + at + p * below + t) l.m k ≤ 65535
  block_bound p h t ht =
      let s : ℕ → ℕ = λ r. sum_to (older t r) k in
      omega (
        arith,
        filled_at zeros (rows p) size long t ht,
        sum_to_mono (λ r. sum_to (λ q. older t r q - newer r q) k) s p (λ r hr. minus_le (older t r) (newer r) k),
        sum_to_more s p,
        prefix_le s (p + 1) k (omega arith),
        squared.older_sum t ht,
        squared.older_small t ht,
      )

  block_is : (p : ℕ)
      → fill_to (stored p) 0 (λ t. get_or (stored p) t 0 + row_more boxes (l.at + at + p * below + t) (l.own + own + p * under) l.m k) size
      ≡ stored (p + 1)
  block_is p =
      fill_again zeros (rows p) _ size
      ∙ fill_ext zeros 0 _ (rows (p + 1)) size (λ t ht.
      omega (arith, filled_at zeros (rows p) size long t ht, sum_to_more (λ r. sum_to (λ q. older t r q - newer r q) k) p))

  pub block_more : (p x y : ℕ) (xs ys : List ℕ) → x ≡ l.at + at + p * below → y ≡ l.own + own + p * under → xs ≡ stored p
      → ys ≡ fill_to xs 0 (λ t. get_or xs t 0 + row_more boxes (x + t) y l.m k) size → ys ≡ stored (p + 1)
  block_more p x y xs ys e f g h =
      h
      ∙ ap (λ (u : ℕ). fill_to xs 0 (λ t. get_or xs t 0 + row_more boxes (u + t) y l.m k) size) e
      ∙ ap (λ (u : ℕ). fill_to xs 0 (λ t. get_or xs t 0 + row_more boxes (l.at + at + p * below + t) u l.m k) size) f
      ∙ ap
      (λ (zs : List ℕ).
      fill_to zs 0 (λ t. get_or zs t 0 + row_more boxes (l.at + at + p * below + t) (l.own + own + p * under) l.m k) size) g
      ∙ block_is p

  abbrev sum : ℕ → ℕ
  sum t = get_or boxes (w.at + at + t) 0

  abbrev v : ℕ
  v = get_or boxes (w.own + own) 0

  distance : (t : ℕ) → t < size → turned (get_or (stored k) t 0) (sum t) v
      ≡ distance_of boxes (l.at + at) below (l.own + own) under l.m k t
  distance t h =
      rw (filled_at zeros (rows k) size long t h, ← squared.older_sum t h, ← squared.newer_sum) (absolute_is k (older t) newer)

  pub turn_fits : (t : ℕ) → t < size → (get_or (stored k) t 0 ≤ sum t) × (sum t ≤ get_or (stored k) t 0 + v) × (turned (get_or (stored k) t 0) (sum t) v ≤ 65535)
  turn_fits t h =
      let e = filled_at zeros (rows k) size long t h in
      let o = squared.older_sum t h in
      let n = squared.newer_sum in (
        omega (arith, e, o, more_le k (older t) newer),
        omega (arith, e, o, n, less_le k (older t) newer),
        rw (distance t h) (squared.narrow t h),
      )

  -- added to c
  pub turn_is : (d xs ys : List ℕ) (c : ℕ → ℕ) → xs ≡ stored k → ys ≡ fill_to d 0 (λ t. c t + turned (get_or xs t 0) (sum t) v) size
      → ys ≡ fill_to d 0 (λ t. c t + distance_of boxes (l.at + at) below (l.own + own) under l.m k t) size
  turn_is d xs ys c e f =
      f
      ∙ ap (λ (zs : List ℕ). fill_to d 0 (λ t. c t + turned (get_or zs t 0) (sum t) v) size) e
      ∙ fill_ext d 0 _ _ size (λ t h. ap (λ (x : ℕ). c t + x) (distance t h))
