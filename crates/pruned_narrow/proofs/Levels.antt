-- The boxes of a block and its search window are what the loops need.
--   squared        the squares of a part of a block lie in the array and add up to its own sum
--   quarter        so do those of a quarter of a block of 32
--   quarters_are   the distances of four quarters add up to that of the block
use Prim.Native.Nat.{ℕ, zero, suc, ◌+◌, ◌-◌, ◌*◌, ◌/◌, ◌^◌, ◌≤◌, ◌<◌}
use mathlib.Core.Path.{◌≡◌, refl, sym, ap, ap₂, ◌∙◌, subst}
use mathlib.Core.List.{List}
use native.Mathlib.Nat.{mul_comm, mul_assoc, mul-add, add-mul, mul-le-mul, mul-le-mul_left}
use native.Mathlib.Omega.{arith}
use Rattle.base.specs.Index.{row_fits}
use lib.ListN.{length, get_or}
use Rattle.base.specs.Sum.{sum_over, sum_over_ext, sum_over_bound, sum_over_group}
use Rattle.signed.specs.Values.{abs_diff}
use Rattle.boxes.specs.Boxes.{box, Cut, area, level_at, own_at, window_places, level_of, Filled, own_places}
use Rattle.boxes.proofs.Box.{box_parts}
use Rattle.boxes.proofs.Rooms.{cut_at, cut_sixteen, area_small, square_small}
use Rattle.boxes.proofs.Runs.{Parts, parts_16, turned_about}
use Rattle.boxes.proofs.Squares.{window_in_array, own_in_array}
use Rattle.boxes.specs.Runs.{Runs}
use Rattle.pruned_narrow.specs.Narrow.{Squared, distance_of, distance_at}
use Rattle.pruned_narrow.proofs.Sums.{two_by_two}

-- ---- squares of a block

half_of : (e : ℕ) → e ≤ 4 → (32 / 2 ^ e / 2 ≡ 16 / 2 ^ e) × (32 / 2 ^ e ≡ 2 * (16 / 2 ^ e))
half_of zero f = (refl, refl)
half_of (suc zero) f = (refl, refl)
half_of (suc (suc zero)) f = (refl, refl)
half_of (suc (suc (suc zero))) f = (refl, refl)
half_of (suc (suc (suc (suc zero)))) f = (refl, refl)
half_of (suc (suc (suc (suc (suc e))))) f = absurd (omega arith)

-- a block of 32 has twice as many squares a side as a quarter of it
halves : (m : ℕ) → Cut 32 m → (32 / m / 2 ≡ 16 / m) × (32 / m ≡ 2 * (16 / m))
halves m c = subst (λ (x : ℕ). (32 / x / 2 ≡ 16 / x) × (32 / x ≡ 2 * (16 / x))) (sym c.power) (half_of c.exponent c.few)

quarter_parts : (m : ℕ) → Cut 32 m → Parts 16 m
quarter_parts m c = subst (λ (x : ℕ). Parts 16 x) (sym c.power) (parts_16 c.exponent c.few)

-- a square part of a block, of side s in k × k squares, dy rows and dx columns from its corner
module _ (n m s k dy dx at own span : ℕ) (boxes : List ℕ) (few : n ≤ 32) (low : s ≤ 16) (cut : Cut n m) (whole : Cut n s) (all : k * m ≡ s) (down : dy + s ≤ n)
    (across : dx + s ≤ n) (at-is : at ≡ (n + 32) * dy + dx) (own_is : own ≡ n * dy + dx) (some : 0 < span) (short : span ≤ (n + 32) * 32 + 33)
    (room : 5 * area n ≤ length boxes) (f : Filled n span boxes) where
  inside : (p : ℕ) → p < k → p * m + m ≤ s
  inside p h = omega (arith, row_fits p k m h, all)

  -- a square x rows of places on
  down_in : (x p : ℕ) → p < k → x * dy + p * m * x ≤ x * (n - m)
  down_in x p h =
      let a = inside p h in
      omega (arith, mul_comm x (p * m), mul-add x dy (p * m), mul-le-mul_left x (let e : dy + p * m ≤ n - m = omega arith in e))

  older-at : (p q t : ℕ) → level_at n m + at + p * ((n + 32) * m) + t + m * q ≡ level_at n m + (t + at + p * m * (n + 32) + q * m)
  older-at p q t = omega (arith, turned_about p (n + 32) m, mul_comm (n + 32) (p * m), mul_comm m q)

  older_in : (p q t : ℕ) → p < k → q < k → t < span → t + at + p * m * (n + 32) + q * m < window_places n span m
  older_in p q t hp hq ht =
      let c = inside q hq in
      omega (arith, at-is, down_in (n + 32) p hp, add-mul (n + 32) 1 (n - m))

  newer_at : (p q : ℕ) → own_at n m + own + p * (n * m) + m * q ≡ own_at n m + (own + p * m * n + q * m)
  newer_at p q = omega (arith, turned_about p n m, mul_comm n (p * m), mul_comm m q)

  newer_in : (p q : ℕ) → p < k → q < k → own + p * m * n + q * m < own_places n m
  newer_in p q hp hq =
      let c = inside q hq in
      omega (arith, own_is, down_in n p hp, add-mul n 1 (n - m))

  -- the part itself
  part_in : (t : ℕ) → t < span → t + at < window_places n span s
  part_in t h =
      omega (arith, at-is, mul-le-mul_left (n + 32) (let e : dy ≤ n - s = omega arith in e), add-mul (n + 32) 1 (n - s))

  own_in : own < own_places n s
  own_in = omega (arith, own_is, mul-le-mul_left n (let e : dy ≤ n - s = omega arith in e), add-mul n 1 (n - s))

  part-at : (t : ℕ) → level_at n s + at + t ≡ level_at n s + (t + at)
  part-at t = omega arith

  most : 255 * s * s ≤ 65280
  most = omega (arith, square_small s 16 low, mul_assoc 255 s s)

  most_parts : k * (k * (255 * m * m)) ≡ 255 * s * s
  most_parts =
      let a : k * (255 * m * m) ≡ 255 * m * s = turned_about k (255 * m) m ∙ ap (λ (x : ℕ). 255 * m * x) all in
      ap (λ (x : ℕ). k * x) a ∙ sym (mul_assoc k (255 * m) s) ∙ ap (λ (x : ℕ). x * s) (turned_about k 255 m ∙ ap (λ (x : ℕ). 255 * x) all)

  level_small : level_at n m ≤ 20480
  level_small = rw (cut_at n m cut) (mul-le-mul {n₂ = 4} {m₂ = 5120} cut.few (area_small n few))

  next_small : (x : ℕ) → x ≤ 64 → (k + 1) * (x * m) ≤ 3072
  next_small x h =
      let e : (k + 1) * m ≤ 48 = omega (arith, add-mul k 1 m, all, cut.inside) in
      rw (turned_about (k + 1) x m) (mul-le-mul {n₂ = 64} {m₂ = 48} h e)

  start_small : (x : ℕ) → x ≤ 64 → x * dy ≤ 2048
  start_small x h = mul-le-mul {n₂ = 64} {m₂ = 32} h (omega arith)

  difference_small : (a b c : ℕ) → a ≤ c → b ≤ c → abs_diff a b ≤ c
  difference_small a b c g h = omega arith

  pub squared : Squared boxes (level_of n m) k at own (level_of n s) span
  squared = record {
    rows = λ p hp. record {
      some = some;
      older = λ t q ht hq. omega (arith, older-at p q t, window_in_array n span m _ short cut (older_in p q t hp hq ht));
      newer = λ q hq. omega (arith, newer_at p q, own_in_array n m _ cut (newer_in p q hp hq));
    };
    older_room = omega (arith, window_in_array n span s (span - 1 + at) short whole (part_in (span - 1) (omega arith)));
    newer_room = omega (arith, own_in_array n s own whole own_in);
    small = omega (
      arith,
      at-is,
      own_is,
      level_small,
      square_small (n + 32) 64 (omega arith),
      next_small (n + 32) (omega arith),
      next_small n (omega arith),
      start_small (n + 32) (omega arith),
      start_small n (omega arith),
    );
    older_sum = λ t h.
        sum_over_ext k k _ _ (λ p q hp hq. ap (λ (u : ℕ). get_or boxes u 0) (older-at p q t) ∙ f.levels.window m _ cut (older_in p q t hp hq h))
        ∙ box_parts (λ u. get_or boxes u 0) (n + 32) k m (t + at)
        ∙ ap (λ (x : ℕ). box (λ u. get_or boxes u 0) (n + 32) x (t + at)) all
        ∙ sym (f.levels.window s (t + at) whole (part_in t h))
        ∙ ap (λ (u : ℕ). get_or boxes u 0) (sym (part-at t));
    newer_sum =
        sum_over_ext k k _ _ (λ p q hp hq. ap (λ (u : ℕ). get_or boxes u 0) (newer_at p q) ∙ f.levels.own m _ cut (newer_in p q hp hq))
        ∙ box_parts (λ u. get_or boxes ((n + 32) * (n + 32) + u) 0) n k m own
        ∙ ap (λ (x : ℕ). box (λ u. get_or boxes ((n + 32) * (n + 32) + u) 0) n x own) all
        ∙ sym (f.levels.own s own whole own_in);
    older_small = λ t h. rw (part-at t) (omega (arith, f.window_small s (t + at) whole (part_in t h), most));
    narrow = λ t h.
        let b = sum_over_bound (255 * m * m) k k
        (λ p q. abs_diff (get_or boxes (own_at n m + own + p * (n * m) + m * q) 0) (get_or boxes (level_at n m + at + p * ((n + 32) * m) + t + m * q) 0))
        (λ p q hp hq.
        difference_small _ _ (255 * m * m)
        (rw (newer_at p q) (f.own_small m _ cut (newer_in p q hp hq)))
        (rw (older-at p q t) (f.window_small m _ cut (older_in p q t hp hq h)))) in
        omega (arith, b, most_parts, most);
  }

-- ---- a block of 32

pub quarter : (m dy dx at own span : ℕ) (boxes : List ℕ) → dy ≤ 16 → dx ≤ 16 → at ≡ 64 * dy + dx → own ≡ 32 * dy + dx → Cut 32 m → 0 < span → span ≤ 2081
    → 5 * area 32 ≤ length boxes → Filled 32 span boxes → Runs (32 / m / 2) × Squared boxes (level_of 32 m) (32 / m / 2) at own (level_of 32 16) span
quarter m dy dx at own span boxes hy hx at-is own_is cut some short room f =
    let c = quarter_parts m cut in
    rw (halves m cut).0 (
      c.runs,
      squared 32 m 16 (16 / m) dy dx at own span boxes (omega arith) (omega arith) cut (cut_sixteen 32 (omega arith)) c.whole (omega arith)
          (omega arith) at-is own_is some short room f,
    )

module _ (boxes : List ℕ) (m : ℕ) (cut : Cut 32 m) (t : ℕ) where
  abbrev pub quarter_of : ℕ → ℕ → ℕ
  quarter_of at own = distance_of boxes (level_at 32 m + at) (64 * m) (own_at 32 m + own) (32 * m) m (32 / m / 2) t

  abbrev k : ℕ
  k = 16 / m

  abbrev term : ℕ → ℕ → ℕ
  term p q = abs_diff (get_or boxes (own_at 32 m + p * (32 * m) + m * q) 0) (get_or boxes (level_at 32 m + p * (64 * m) + t + m * q) 0)

  -- p quarters down and q across, in places of rows of x
  quarter_at : (x p q i j : ℕ) → (p * k + i) * (x * m) + m * (q * k + j) ≡ p * (x * 16) + q * 16 + (i * (x * m) + m * j)
  quarter_at x p q i j =
      let a : p * k * (x * m) ≡ p * (x * 16) = mul_assoc p k (x * m) ∙ ap (λ (y : ℕ). p * y) (turned_about k x m ∙ ap (λ (y : ℕ). x * y) (quarter_parts m cut).whole) in
      let b : m * (q * k) ≡ q * 16 = mul_comm m (q * k) ∙ mul_assoc q k m ∙ ap (λ (y : ℕ). q * y) (quarter_parts m cut).whole in
      omega (arith, add-mul (p * k) i (x * m), mul-add m (q * k) j, a, b)

  quarter_is : (p q at own : ℕ) → at ≡ p * 1024 + q * 16 → own ≡ p * 512 + q * 16 → sum_over k k (λ i j. term (p * k + i) (q * k + j)) ≡ quarter_of at own
  quarter_is p q at own e f =
      rw (halves m cut).0
      (sum_over_ext k k _ _ (λ i j hi hj.
      ap₂ (λ (u v : ℕ). abs_diff (get_or boxes u 0) (get_or boxes v 0))
      (omega (arith, quarter_at 32 p q i j, f))
      (omega (arith, quarter_at 64 p q i j, e))))

  pub quarters_are : quarter_of 0 0 + quarter_of 16 16 + (quarter_of 1024 512 + quarter_of 1040 528) ≡ distance_at boxes 32 m t
  quarters_are =
      sym
      (ap (λ (c : ℕ). sum_over c c term) (halves m cut).1
      ∙ sum_over_group 2 k term
      ∙ two_by_two (λ p q. sum_over k k (λ i j. term (p * k + i) (q * k + j)))
      ∙ ap₂ ◌+◌ (ap₂ ◌+◌ (quarter_is 0 0 0 0 (omega arith) (omega arith)) (quarter_is 0 1 16 16 (omega arith) (omega arith)))
      (ap₂ ◌+◌ (quarter_is 1 0 1024 512 (omega arith) (omega arith)) (quarter_is 1 1 1040 528 (omega arith) (omega arith))))
