-- The steps of a test, over what the functions that they call leave.
--   nearest_all   the least of the distances of all is the nearest's
--   listed_grid   spots that are listed stand in window 16; listed_in: their candidates are in reach
--   near_at       the distances at m can be looked up
--   InFront       the keys of some spots stand in front
--   listed_leveled   the test at m, of those listed: those left are listed too, whatever the next test is
--   all_fits      what is tested by the distances of all has them in 32 bits
--   size_small, side_small, region_small, resolution, span_few, span_some, span_filled, numbered_distances   what the distances of all ask for
--   all_leveled   the test at m, of all
use Prim.Native.Nat.{ℕ, ◌+◌, ◌-◌, ◌*◌, ◌≤◌, ◌<◌}
use mathlib.Core.Path.{◌≡◌, refl, sym, ap, ◌∙◌, subst}
use mathlib.Core.Bool.{Bool, true, false, ◌&&◌}
use mathlib.Core.List.{List}
use native.Mathlib.Nat.{mul-le-mul_left}
use native.Mathlib.Decide.{dec_le}
use native.Mathlib.Omega.{arith}
use lib.Dec.{T, ltb}
use lib.ListN.{length, take}
use lib.Seq.{length-take-le}
use Rattle.base.specs.Tests.{true_T}
use Rattle.base.specs.Least.{◌∈◌}
use Rattle.order.specs.declared.Vector.{Vector}
use Rattle.frame.specs.declared.Region.{Region}
use Rattle.frame.specs.declared.Setting.{Setting}
use Rattle.frame.specs.declared.SearchBlock.{SearchBlock}
use Rattle.reach.specs.Reach.{Standing, reach}
use Rattle.reach.proofs.Candidates.{ready_standing, reach_bounds}
use Rattle.full.specs.Rows.{LeastKey}
use Rattle.pruned_rule.specs.Spots.{spots, vector_on, kept_on, Chosen, choice_of}
use Rattle.pruned_rule.proofs.Parts.{parted}
use Rattle.pruned_rule.proofs.Spots.{parted_few, spots_reach, nearest_of_all}
use Rattle.boxes.specs.Boxes.{span_of, Filled}
use Rattle.boxes.specs.Distances.{Resolution, Numbered}
use Rattle.pruned_list.specs.Listed.{keys_of, distance_of, spot_of, nearest_key, KeptWithin, SpotIn, SpotsIn}
use Rattle.pruned_list.proofs.Listed.{OnGrid, spots_grid, nearest_spot, within_listed}
use Rattle.pruned_lookup.specs.Lookup.{Distanced, Near}
use Rattle.pruned_lookup.proofs.Places.{near_first}
use Rattle.pruned_lookup.proofs.Renewed.{listed_reach, listed_distances}
use Rattle.pruned_sift.specs.Laid.{key_in}
use Rattle.pruned_sift.proofs.Distances.{nearest_chosen}
use Rattle.refusals.specs.Refusals.{block_size}
use Rattle.pruned.specs.declared.Remaining.{Remaining}
use Rattle.pruned.specs.Flow.{dist_of, limit_of, left_at, bound_by, bound_at, Distances, fits, few, by_all, Held, Facing, Leveled, Search}
use Rattle.pruned.proofs.Flow.{bound_same, bound_less}
use Rattle.pruned.proofs.Levels.{power_few, resolved, listed_held}

-- the least of the distances of all
pub nearest_all : (b : SearchBlock) → Standing b → (cost : Vector → ℕ) (numbers : List ℕ) → Distances cost b numbers → (r : Region) → r ≡ reach b → (key : ℕ)
    → LeastKey (key_in numbers (b.setting.n + 32) r) r key → SpotIn b (spot_of key) × (vector_on (spot_of key) ≡ choice_of b cost)
nearest_all b s cost numbers are r is key l =
    let chosen = nearest_chosen b s cost numbers (b.setting.n + 32) are key (rw is at l) in
    (spots_reach b s chosen.member, nearest_of_all b s cost (spot_of key) chosen)

-- ---- those listed

abbrev pub InFront : List ℕ → List ℕ → ℕ → Type 0
InFront ts keys count = (count ≤ length keys) × ((cost : Vector → ℕ) × (take count keys ≡ keys_of cost ts))

module _ (b : SearchBlock) (s : Standing b) (ts keys : List ℕ) (count : ℕ) (among : (t : ℕ) → t ∈ ts → t ∈ spots (reach b)) (room : count ≤ length keys)
    (cost : Vector → ℕ) (front : take count keys ≡ keys_of cost ts) where
  pub listed_grid : OnGrid ts
  listed_grid t i = spots_grid b s t (among t i)

  pub listed_in : SpotsIn b keys count
  listed_in = listed_reach cost ts keys count room front listed_grid (reach b) (λ t i. spots_reach b s (among t i))

pub near_at : {older newer : List ℕ} {b : SearchBlock} {r : Region} {boxes : List ℕ} {m : ℕ} → Search older newer b r boxes m → Near boxes b.setting.n m 0
near_at {b = b} {boxes = boxes} {m = m} s =
    let small = (block_size b.setting.n s.ready.placed.paired.allowed).most in
    near_first boxes b.setting.n m s.exponent small s.power (power_few s.exponent (omega (arith, s.power, s.inside, small))) s.inside s.room

module _ {older newer : List ℕ} {b : SearchBlock} {r : Region} {boxes : List ℕ} {m : ℕ} (s : Search older newer b r boxes m) {keys : List ℕ} {q : Remaining}
    (f : Facing older newer b m keys q) (l : InFront f.ts keys q.count) where
  abbrev standing : Standing b
  standing = ready_standing older newer b s.ready

  abbrev room : q.count ≤ length keys
  room = l.0

  pub facing_in : SpotsIn b keys q.count
  facing_in = listed_in b standing f.ts keys q.count f.among room l.1.0 l.1.1

  grid : OnGrid f.ts
  grid = listed_grid b standing f.ts keys q.count f.among room l.1.0 l.1.1

  module _ (mid : List ℕ) (long : length mid ≡ length keys) (d : Distanced b.setting.measure boxes b.setting.n m r keys q.count mid) where
    looked : take q.count mid ≡ keys_of (dist_of older newer b m) f.ts
    looked =
        listed_distances l.1.0 f.ts keys q.count room l.1.1 grid older newer b boxes b.setting.measure m mid s.boxed
        (rw s.region at d)

    chosen : Chosen (dist_of older newer b m) f.ts (spot_of (nearest_key mid q.count))
    chosen = (nearest_spot (dist_of older newer b m) f.ts mid q.count f.some (omega (arith, long, room)) looked grid).0

    pub nearest_in : SpotIn b (spot_of (nearest_key mid q.count))
    nearest_in = spots_reach b standing (f.among _ chosen.member)

    -- E is lowered as by the nearest of all
    bound_is : bound_by older newer b m (vector_on (spot_of (nearest_key mid q.count))) q.bound ≡ bound_at older newer b m q.bound
    bound_is = go (dec_le b.setting.n m)
      where
        go : Dec (b.setting.n ≤ m)
            → bound_by older newer b m (vector_on (spot_of (nearest_key mid q.count))) q.bound ≡ bound_at older newer b m q.bound
        go (yes h) = bound_same older newer b m _ q.bound h ∙ sym (bound_same older newer b m _ q.bound h)
        go (no h) = ap (λ v. bound_by older newer b m v q.bound) (f.nearest (omega arith) _ chosen)

    pub listed_leveled : (e : ℕ) → e ≡ bound_by older newer b m (vector_on (spot_of (nearest_key mid q.count))) q.bound → (limit : ℕ) → limit ≡ limit_of b m e
        → (after : List ℕ) (count : ℕ) → KeptWithin limit mid q.count after count → length after ≡ length mid
        → Leveled older newer b m q.bound after (record { count = count; bound = e }) × InFront (left_at older newer b m e) after count
    listed_leveled e lowered limit is after count k kept-long =
        let inside : q.count ≤ length mid = omega (arith, long, room) in
        let fitting : count ≤ length after = omega (arith, k.many, parted_few (parted distance_of limit (take q.count mid)), length-take-le q.count mid inside) in
        let same = f.same e (omega (arith, lowered, bound_less older newer b m (vector_on (spot_of (nearest_key mid q.count))) q.bound)) in
        let w = within_listed (dist_of older newer b m) f.ts k grid looked in
        let left : kept_on (dist_of older newer b) (limit_of b) m e f.ts ≡ left_at older newer b m e = same in
        let many : count ≡ length (left_at older newer b m e) = rw is at w.1 ∙ ap length left in
        let front : take count after ≡ keys_of (dist_of older newer b m) (left_at older newer b m e) = rw is at w.0 ∙ ap (keys_of (dist_of older newer b m)) left in
        let held = listed_held b m (left_at older newer b m e) after count e (dist_of older newer b m) (sym many) fitting front in
        (record { bound = lowered ∙ bound_is; held = held }, (fitting, (dist_of older newer b m, front)))

-- ---- sizes

module _ {older newer : List ℕ} {b : SearchBlock} {r : Region} {boxes : List ℕ} {m : ℕ} (s : Search older newer b r boxes m) where
  pub size_small : b.setting.n ≤ 32
  size_small = (block_size b.setting.n s.ready.placed.paired.allowed).most

  pub side_small : m ≤ 32
  side_small = omega (arith, s.inside, size_small)

  pub region_small : (0 < r.rows) × (r.rows ≤ 33) × (r.columns ≤ 33)
  region_small = let d = reach_bounds b (ready_standing older newer b s.ready) in rw s.region (d.rows, omega (arith, d.few_rows), omega (arith, d.few_columns))

  pub resolution : Resolution b.setting.n m
  resolution = resolved b.setting.n m s.exponent size_small s.inside s.power

  -- the places from the first candidate to the last
  module _ (span : ℕ) (is : span ≡ span_of b.setting.n r) where
    pub span_few : span ≤ (b.setting.n + 32) * 32 + 33
    span_few =
        let k = region_small in
        let down : r.rows - 1 ≤ 32 = omega arith in
        omega (arith, is, mul-le-mul_left (b.setting.n + 32) down)

    pub span_some : 0 < span
    span_some = let d = reach_bounds b (ready_standing older newer b s.ready) in
        let some : 0 < r.columns = rw s.region d.columns in
        omega (arith, is)

    span_is : span ≡ span_of b.setting.n (reach b)
    span_is = is ∙ ap (span_of b.setting.n) s.region

    pub span_filled : Filled b.setting.n span boxes
    span_filled = rw span_is s.boxed.filled

    pub numbered_distances : (numbers : List ℕ) → Numbered b.setting.measure boxes b.setting.n m span numbers
        → Distances (dist_of older newer b m) b numbers
    numbered_distances numbers d i j h = d older newer b s.boxed refl span_is i j h

-- after the test of all: E was lowered, and those within its limit are there
pub all_leveled : (older newer : List ℕ) (b : SearchBlock) (m e f : ℕ) (keys : List ℕ) (q : Remaining) → f ≡ bound_at older newer b m e → q.bound ≡ f
    → Held b m (left_at older newer b m f) keys q → Leveled older newer b m e keys q
all_leveled older newer b m e f keys q lowered same held =
    record { bound = same ∙ lowered; held = subst (λ (x : ℕ). Held b m (left_at older newer b m x) keys q) (sym same) held }

-- what is tested by the distances of all has them in 32 bits
pub all_fits : (s : Setting) (m count : ℕ) → by_all s m count ≡ true → T (fits s m)
all_fits s m count = go (ltb few count)
  where
    go : (t : Bool) → t && fits s m ≡ true → T (fits s m)
    go true e = true_T (fits s m) e
    go false e = absurd (true_T false e)
