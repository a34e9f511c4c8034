-- `fill_quarters`: after each call one quarter more is there.
use Prim.Native.Nat.{ℕ, ◌+◌, ◌*◌, ◌/◌, ◌≤◌, ◌<◌}
use mathlib.Core.Path.{◌≡◌, ap, ◌∙◌}
use native.Mathlib.Omega.{arith}
use mathlib.Core.List.{List}
use lib.ListN.{length, get_or}
use Rattle.base.specs.Lists.{fill_to, fill_ext, length_fill}
use Rattle.boxes.specs.Boxes.{level_of}
use Rattle.boxes.specs.declared.Level.{Level}
use Rattle.boxes.proofs.Filled.{filled_at}
use Rattle.boxes.specs.Runs.{places, Runs}
use Rattle.pruned_narrow.specs.Narrow.{distance_of, distance_at, Squared}
use Rattle.pruned_narrow.proofs.Sums.{fill_added}
use Rattle.pruned_narrow.proofs.Levels.{quarter, quarters_are}
use Rattle.pruned_narrow.proofs.fill_quarters.Goals as goal
use Rattle.pruned_narrow.proofs.fill_quarters.Goals.{After-level_of-h, Start}

-- what the two levels are: a quarter dy rows and dx columns on is one that can be added, and four are all
module _ (s : Start) (l w : Level) (e : l ≡ level_of 32 s.args.m) (f : w ≡ level_of 32 16) where
  abbrev boxes : List ℕ
  boxes = s.args.boxes.now

  ready : (dy dx : ℕ) → dy ≤ 16 → dx ≤ 16 → Runs (l.k / 2) × Squared boxes l (l.k / 2) (64 * dy + dx) (32 * dy + dx) w s.args.size
  ready dy dx hy hx =
      let p = s.requires in
      rw (e, f) (quarter s.args.m dy dx _ _ s.args.size boxes hy hx (omega arith) (omega arith) p.0 p.2 p.1 p.3 p.4)

  abbrev distance : ℕ → ℕ → ℕ → ℕ
  distance at own = distance_of boxes (l.at + at) (l.pitch * l.m) (l.own + own) (l.n * l.m) l.m (l.k / 2)

  total : (t : ℕ) → 0 + distance 0 0 t + distance 16 16 t + distance 1024 512 t + distance 1040 528 t ≡ distance_at boxes 32 s.args.m t
  total t = rw e (omega (arith, quarters_are boxes s.args.m s.requires.0 t))

module _ (c : After-level_of-h) where
  abbrev start : Start
  start = c.before.before.before.before

  abbrev l : Level
  l = c.before.level_of-l.result

  abbrev size : ℕ
  size = start.args.size

  abbrev numbers : List ℕ
  numbers = start.args.numbers.now

  few : size ≤ places
  few = omega (arith, start.requires.1)

  long : size ≤ length numbers
  long = omega (arith, few, start.requires.5)

  abbrev Part : ℕ → ℕ → Type 0
  Part at own = Squared start.args.boxes.now l (l.k / 2) at own c.level_of-h.result size

  runs : Runs (l.k / 2)
  runs = (ready start _ _ c.before.level_of-l.ensures c.level_of-h.ensures 0 0 (omega arith) (omega arith)).0

  part : (dy dx : ℕ) → dy ≤ 16 → dx ≤ 16 → Part (64 * dy + dx) (32 * dy + dx)
  part dy dx hy hx = (ready start _ _ c.before.level_of-l.ensures c.level_of-h.ensures dy dx hy hx).1

  parts : Part 0 0 × Part 16 16 × Part 1024 512 × Part 1040 528
  parts = (part 0 0 (omega arith) (omega arith), part 0 16 (omega arith) (omega arith), part 16 0 (omega arith) (omega arith), part 16 16 (omega arith) (omega arith))

  abbrev of : ℕ → ℕ → ℕ → ℕ
  of = distance start l c.level_of-h.result c.before.level_of-l.ensures c.level_of-h.ensures

  -- the sum g of the quarters so far, `most` at most
  abbrev Stored : List ℕ → (ℕ → ℕ) → ℕ → Type 0
  Stored xs g most = (xs ≡ fill_to numbers 0 g size) × ((t : ℕ) → t < size → g t ≤ most)

  first : (xs : List ℕ) → xs ≡ fill_to numbers 0 (λ t. 0 + of 0 0 t) size → Stored xs (λ t. 0 + of 0 0 t) 65535
  first xs h = (h, λ t k. omega (arith, parts.0.narrow t k))

  more : (at own : ℕ) → Part at own → (xs ys : List ℕ) (g : ℕ → ℕ) (most : ℕ) → Stored xs g most → ys ≡ fill_to xs 0 (λ t. get_or xs t 0 + of at own t) size
      → Stored ys (λ t. g t + of at own t) (most + 65535)
  more at own p xs ys g most k h = (fill_added _ xs ys g _ size long k.0 h, λ t ht. omega (arith, k.1 t ht, p.narrow t ht))

  fits : (xs : List ℕ) (g : ℕ → ℕ) (most : ℕ) → Stored xs g most → most ≤ 1000000
      → (length xs ≡ places) × ((t : ℕ) → t < size → get_or xs t 0 ≤ 1000000)
  fits xs g most k h = (
    ap length k.0 ∙ length_fill numbers 0 g size (omega (arith, long)) ∙ start.requires.5,
    λ t ht. rw k.0 (omega (arith, filled_at numbers g size long t ht, k.1 t ht)),
  )

pub add_block-requires : goal.add_block-requires
add_block-requires c =
    let h = (goal.at.add_block-requires c).After-level_of-h in
    (few h, c.requires.5, runs h, search (parts h), λ t h. omega arith)

pub add_block-requires-2 : goal.add_block-requires-2
add_block-requires-2 c =
    let h = (goal.at.add_block-requires-2 c).After-level_of-h in
    let r = fits h _ _ _ (first h _ c.add_block.ensures) (omega arith) in
    (few h, r.0, runs h, search (parts h), r.1)

pub add_block-requires-3 : goal.add_block-requires-3
add_block-requires-3 c =
    let h = (goal.at.add_block-requires-3 c).After-level_of-h in
    let two = more h 16 16 (parts h).1 _ _ _ _ (first h _ c.add_block.ensures) c.add_block-2.ensures in
    let r = fits h _ _ _ two (omega arith) in
    (few h, r.0, runs h, search (parts h), r.1)

pub add_block-requires-4 : goal.add_block-requires-4
add_block-requires-4 c =
    let h = (goal.at.add_block-requires-4 c).After-level_of-h in
    let two = more h 16 16 (parts h).1 _ _ _ _ (first h _ c.add_block.ensures) c.add_block-2.ensures in
    let r = fits h _ _ _ (more h 1024 512 (parts h).2 _ _ _ _ two c.add_block-3.ensures) (omega arith) in
    (few h, r.0, runs h, search (parts h), r.1)

pub returns : goal.returns
returns c =
    let h = (goal.at.returns c).After-level_of-h in
    let two = more h 16 16 (parts h).1 _ _ _ _ (first h _ c.add_block.ensures) c.add_block-2.ensures in
    let three = more h 1024 512 (parts h).2 _ _ _ _ two c.add_block-3.ensures in
    let m = more h 1040 528 (parts h).3 _ _ _ _ three c.add_block-4.ensures in
    m.0 ∙ fill_ext _ 0 _ _ _ (λ t k. total (goal.at.returns c).Start _ _ c.level_of-l.ensures c.level_of-h.ensures t)
