-- `distance_at`: at 32 of whole blocks, else of all squares.
use Prim.Native.Nat.{ℕ, ◌+◌, ◌≤◌, ◌<◌}
use mathlib.Core.Path.{◌≡◌, ◌∙◌}
use native.Mathlib.Omega.{arith}
use lib.ListN.{length}
use Rattle.boxes.specs.Boxes.{whole_of}
use Rattle.measures.specs.Measures.{diff_most}
use Rattle.pruned_lookup.proofs.Sides.{box-whole, box_other}
use Rattle.pruned_lookup.proofs.Places.{covered, whole_places}
use Rattle.pruned_lookup.proofs.distance_at.Goals as goal
use Rattle.pruned_lookup.proofs.distance_at.Goals.{After-shared_slice_known-1}

-- four boxes have 16 bits each
whole-low : (c : After-shared_slice_known-1) (at below : ℕ) → whole_of c.args.boxes.now at below ≤ 262140
whole-low c at below =
    omega (arith, c.shared_slice_known-1.given at, c.shared_slice_known-1.given (at + 16), c.shared_slice_known-1.given (at + below), c.shared_slice_known-1.given (at + below + 16))

-- the places of four boxes
places : (c : After-shared_slice_known-1) → let a = c.args in
    a.m ≡ 32 → (a.l.own + 512 + 16 < length a.boxes.now) × (a.l.at + a.t + 1024 + 16 < length a.boxes.now)
places c e = whole_places c.args.boxes.now c.args.m c.args.t c.args.l c.requires.0 c.requires.1 e

pub whole_32-requires : goal.whole_32-requires
whole_32-requires c = (places (goal.at.whole_32-requires c).After-shared_slice_known-1 c.if-m-eq32.true).0

pub whole_32-requires-then-m-eq32 : goal.whole_32-requires-then-m-eq32
whole_32-requires-then-m-eq32 c = (places (goal.at.whole_32-requires-then-m-eq32 c).After-shared_slice_known-1 c.if-m-eq32.true).1

pub returns-then-m-eq32 : goal.returns-then-m-eq32
returns-then-m-eq32 c =
    let a = c.args in
    let e = rw (c.whole_32.ensures, c.whole_32-then-m-eq32.ensures) at c.sum_difference.ensures in
    let h =
    diff_most a.measure (whole_of a.boxes.now a.l.own 512) (whole_of a.boxes.now (a.l.at + a.t) 1024) 262140 (omega arith)
    (whole-low (goal.at.returns-then-m-eq32 c).After-shared_slice_known-1 a.l.own 512)
    (whole-low (goal.at.returns-then-m-eq32 c).After-shared_slice_known-1 (a.l.at + a.t) 1024) in
    (e ∙ box-whole a.measure a.boxes.now a.m a.l a.t c.if-m-eq32.true, omega (arith, e, h))

pub rows_at-requires : goal.rows_at-requires
rows_at-requires c = covered c.args.boxes.now c.args.m c.args.t c.args.l c.requires.0 c.requires.1

pub returns : goal.returns
returns c =
    let a = c.args in
    let e = c.rows_at.ensures in
    let k = covered a.boxes.now a.m a.t a.l c.requires.0 c.requires.1 in
    (e.0 ∙ box_other a.measure a.boxes.now a.m a.l a.t c.if-m-eq32.false, omega (arith, e.1, k.few))
