-- `measure_block`: over, or within and all rows measured; the blocks begin at those places, and their rows are the blocks' rows.
use Prim.Native.Nat.{◌+◌, ◌*◌, ◌≤◌}
use mathlib.Core.Path.{sym, ap, ◌∙◌}
use native.Mathlib.Omega.{arith}
use borrow.Author.Rules.{Fits-under}
use lib.ListN.{length}
use mir.Syntax.{w32}
use Rattle.measures.specs.Measures.{measure_of}
use Rattle.distortion.specs.Blocks.{begins, block-inside, size_small, within_says, over_says, partial_rows}
use Rattle.measuring.specs.declared.Measurement.TheVariants.{Within, Over}
use Rattle.measuring.proofs.Passing.{measurement_within, measurement_over, rows_ext}
use Rattle.measuring.proofs.measure_block.Goals as goal
use Rattle.measuring.proofs.measure_block.Goals.{Start}

firsts : (s : Start) → let a = s.args in
    (a.y * a.s.width + a.x ≤ length a.newer.now) × (a.r * a.s.width + a.c ≤ length a.older.now)
firsts s = begins _ _ _ _ _ _ _ s.requires

pub overflow_mul-y : goal.overflow_mul-y
overflow_mul-y c = omega (arith, firsts (goal.at.overflow_mul-y c).Start)

pub overflow_add-y : goal.overflow_add-y
overflow_add-y c = omega (arith, firsts (goal.at.overflow_add-y c).Start)

pub overflow_mul-r : goal.overflow_mul-r
overflow_mul-r c = omega (arith, firsts (goal.at.overflow_mul-r c).Start)

pub overflow_add-r : goal.overflow_add-r
overflow_add-r c = omega (arith, firsts (goal.at.overflow_add-r c).Start)

pub rows_measured-rows-requires : goal.rows_measured-rows-requires
rows_measured-rows-requires c = block-inside _ _ _ _ _ _ _ c.requires

pub overflow_cast-result : goal.overflow_cast-result
overflow_cast-result c =
    Fits-under w32 _ 64 (omega (arith, c.rows_measured-rows.ensures.1, size_small _ c.requires.placed.paired.allowed)) tt

pub returns-in_default : goal.returns-in_default
returns-in_default c =
    let a = c.args in
    let over = measurement_over _ _ _ _ _ (over_says _ _ (sym c.block_up_to.ensures ∙ c.in_default.is)) in
    let rows = rows_ext a.ceiling _ _ (partial_rows (measure_of a.s.measure) a.older.now a.newer.now a.s.width a.y a.x a.r a.c a.s.n) a.s.n in
    ap Over (c.rows_measured-rows.ensures.0 ∙ sym rows) ∙ sym over

pub overflow_cast-result-2 : goal.overflow_cast-result-2
overflow_cast-result-2 c =
    Fits-under w32 _ 64 (size_small _ c.requires.placed.paired.allowed) tt

pub returns : goal.returns
returns c =
    let w = within_says _ _ _ (sym c.block_up_to.ensures ∙ c.in-Some.is) in
    ap (λ d. Within d c.args.s.n) w.1 ∙ sym (measurement_within _ _ _ _ _ w.0)
