-- `fill`: the pels, and then the boxes of twice the m each time.
use Prim.Native.Nat.{ℕ, ◌+◌, ◌-◌, ◌≤◌}
use mathlib.Core.Path.{◌≡◌, ap, sym, ◌∙◌, subst}
use mathlib.Core.List.{List}
use native.Mathlib.Nat.{mul-le-mul_right}
use native.Mathlib.Omega.{arith}
use lib.ListN.{get_or}
use Rattle.frame.specs.declared.Region.{Region}
use Rattle.refusals.specs.Refusals.{block_size}
use Rattle.reach.specs.Reach.{Standing, reach}
use Rattle.reach.proofs.Candidates.{Bounds, reach_bounds, ready_standing}
use Rattle.boxes.specs.Boxes.{window_pels, block_pels, span_of}
use Rattle.boxes.proofs.Rooms.{area_is, square_small}
use Rattle.boxes.proofs.Squares.{span_short, first_small, boxed}
use Rattle.boxes.proofs.fill.Goals as goal
use Rattle.boxes.proofs.fill.Goals.{After-span, Start}

standing : (s : Start) → Standing s.args.matching.block
standing s = ready_standing _ _ _ (s.args.matching.ready)

few : (s : Start) → s.args.matching.block.setting.n ≤ 32
few s = (block_size _ (s.args.matching.ready).placed.paired.allowed).most

bounds : (s : Start) → Bounds s.args.matching.block s.args.r
bounds s = subst (λ (r : Region). Bounds s.args.matching.block r) (sym s.requires.0) (reach_bounds s.args.matching.block (standing s))

pub copy_window-requires : goal.copy_window-requires
copy_window-requires c =
    let n = c.args.matching.block.setting.n in
    let r = c.args.r in
    let k = bounds (goal.at.copy_window-requires c).Start in
    let f = few (goal.at.copy_window-requires c).Start in
    let rows : r.rows + n - 1 ≤ n + 32 = omega (arith, k.few_rows, k.below, k.above) in (
      standing (goal.at.copy_window-requires c).Start,
      f,
      omega (arith, (c.args.matching.ready).placed.paired.older_whole),
      c.requires.0,
      omega (arith, f),
      omega (arith, mul-le-mul_right (n + 32) rows, area_is n, c.requires.1, k.rows, k.columns, k.few_rows, k.few_columns),
      omega arith,
    )

pub overflow_mul-n : goal.overflow_mul-n
overflow_mul-n c = omega (arith, square_small (c.args.matching.block.setting.n + 32) 64 (omega (arith, few (goal.at.overflow_mul-n c).Start)))

pub copy_block-requires : goal.copy_block-requires
copy_block-requires c =
    let n = c.args.matching.block.setting.n in
    let p = (c.args.matching.ready).placed.paired in
    let f = few (goal.at.copy_block-requires c).Start in
    (standing (goal.at.copy_block-requires c).Start, f, omega (arith, p.newer_whole), omega (arith, f), omega (arith, area_is n, c.requires.1, c.copy_window.auto.copy), omega (arith, c.copy_window.auto.copy))

pub span-requires : goal.span-requires
span-requires c =
    let k = bounds (goal.at.span-requires c).Start in
    (few (goal.at.span-requires c).Start, k.rows, omega (arith, k.few_rows), omega (arith, k.few_columns))

-- the pels as the two copies leave them
pels-are : (c : After-span) → let a = c.args in
    c.copy_block.new.copy ≡ block_pels a.matching.newer.now a.matching.block (window_pels a.matching.older.now a.matching.block a.boxes.now)
pels-are c =
    let a = c.args in
    c.copy_block.ensures
    ∙ ap (λ (xs : List ℕ). block_pels a.matching.newer.now a.matching.block xs) (rw c.requires.0 at c.copy_window.ensures)

pub fill_from_pels-requires : goal.fill_from_pels-requires
fill_from_pels-requires c =
    let k = bounds (goal.at.fill_from_pels-requires c).Start in
    let p = pels-are c in (
      (c.args.matching.ready).placed.paired.allowed,
      rw c.span.ensures (span_short c.args.matching.block.setting.n c.args.r (omega (arith, k.few_rows)) (omega (arith, k.few_columns))),
      omega (arith, c.requires.1, c.copy_window.auto.copy, c.copy_block.auto.copy),
      λ u h.
          subst (λ (xs : List ℕ). get_or xs u 0 ≤ 255) (sym p)
          (first_small c.args.matching.older.now c.args.matching.newer.now c.args.matching.block (c.args.matching.ready) c.args.matching.bytes.0 c.args.matching.bytes.1 _ c.requires.1 c.requires.2 u h),
    )

pub returns : goal.returns
returns c =
    let n = c.args.matching.block.setting.n in
    let span : c.span.result ≡ span_of n (reach c.args.matching.block) = c.span.ensures ∙ ap (λ (r : Region). span_of n r) c.requires.0 in
    let f = rw (pels-are (goal.at.returns c).After-span, span) at c.fill_from_pels.ensures in
    boxed _ _ _ (c.args.matching.ready) c.args.matching.bytes.0 c.args.matching.bytes.1 _ c.requires.1 c.requires.2 _ f.0 f.1
