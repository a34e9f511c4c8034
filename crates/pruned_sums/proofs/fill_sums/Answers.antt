-- `fill_sums`: after r turns the first r + 1 rows of the table are made (`SumsGoing`).
use Prim.Native.Nat.{ℕ, ◌+◌, ◌≤◌}
use mathlib.Core.Path.{◌≡◌, ap, ◌∙◌}
use mathlib.Core.List.{◌++◌}
use native.Mathlib.Omega.{arith}
use lib.ListN.{length, get_or, drop, replicate, length-append, length-drop, length-replicate}
use lib.Seq.{length-take-le}
use Rattle.pruned_sums.specs.Filling.{Fillable}
use Rattle.pruned_sums.proofs.Rows.{sums_ready, sums_first, sums_room, sums_pels, sums_small, sums_more, sums_last}
use Rattle.pruned_sums.proofs.fill_sums.Goals as goal
use Rattle.pruned_sums.proofs.fill_sums.Goals.{After-fill, At-loop-r}

-- the first row is made 0
zeros : (b : After-fill) → b.fill.new.self ≡ replicate (b.args.a.columns + 1) 0
zeros b =
    b.fill.ensures.after (λ y h. h)
    ∙ ap (λ (n : ℕ). replicate n 0) (length-take-le (b.args.a.columns + 1) b.args.table.now (sums_ready _ _ _ _ b.requires))

-- the table has the same room
long : (b : After-fill) → let a = b.args in
    length (b.fill.new.self ++ drop (a.a.columns + 1) a.table.now) ≡ length a.table.now
long b = rw (zeros b, length-append, length-replicate, length-drop) (omega (arith, sums_ready _ _ _ _ b.requires))

ready : (b : After-fill) →
    let a = b.args in
    Fillable a.frame.now a.width a.a (length (b.fill.new.self ++ drop (a.a.columns + 1) a.table.now))
ready b = rw (long b) b.requires

-- a pel is a byte
bytes : (b : At-loop-r) → (k : ℕ) → get_or b.args.frame.now k 0 ≤ 255
bytes b k = omega (arith, b.type_inv.frame k)

pub loop-r-init : goal.loop-r-init
loop-r-init c =
    let a = c.args in
    rw (zeros (goal.at.loop-r-init c).After-fill) (sums_first a.frame.now a.width a.a a.table.now)

pub fill_row-requires : goal.fill_row-requires
fill_row-requires c =
    let h = c.loop-r-test.true in
    let f = ready (goal.at.fill_row-requires c).After-fill in
    record {
      inside = (omega (arith, f.across, f.wide), sums_pels _ _ _ _ _ _ _ _ c.loop-r.invariant f h);
      room = (omega arith, omega (arith, sums_room _ _ _ _ _ _ _ _ c.loop-r.invariant f h));
      small = sums_small _ _ _ _ _ _ _ _ c.loop-r.invariant f (bytes (goal.at.fill_row-requires c).At-loop-r);
    }

pub loop-r-preserved : goal.loop-r-preserved
loop-r-preserved c =
    rw c.fill_row.ensures (sums_more _ _ _ _ _ _ _ _ c.loop-r.invariant (ready (goal.at.loop-r-preserved c).After-fill) c.loop-r-test.true)

pub shape_of-table : goal.shape_of-table
shape_of-table c = c.loop-r.invariant.long ∙ long (goal.at.shape_of-table c).After-fill

pub returns : goal.returns
returns c =
    let e = zeros (goal.at.returns c).After-fill in
    sums_last _ _ _ _ _ _ _ _ c.loop-r-test.false (rw e at c.loop-r.invariant)
