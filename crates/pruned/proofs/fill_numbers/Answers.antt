-- `fill_numbers`: by absolute differences, or by squares.
use Prim.Native.Nat.{ℕ, ◌≤◌}
use mathlib.Core.Path.{sym, ap, ◌∙◌}
use native.Mathlib.Omega.{arith}
use lib.ListN.{length}
use Rattle.base.specs.Lists.{length_fill}
use Rattle.measures.specs.Measures.{measure_other}
use Rattle.frame.specs.Pictures.{pair_of}
use Rattle.refusals.specs.Refusals.{block_size}
use Rattle.distortion.specs.Blocks.{newer_block, older_block}
use Rattle.search.specs.Exhaustive.{grid_vector}
use Rattle.pruned_rule.specs.Distance.{distance_by}
use Rattle.boxes.specs.Distances.{distance_to}
use Rattle.pruned.proofs.Levels.{squares_fit, fine_cut}
use Rattle.pruned.proofs.fill_numbers.Goals as goal
use Rattle.pruned.proofs.fill_numbers.Goals.{Start}

pub fill-requires : goal.fill-requires
fill-requires c = let p = c.requires in (p.0, p.1, p.3, p.4, p.5, p.6, p.7)

narrow-span : (s : Start) → s.args.s.n ≤ 32
narrow-span s = (block_size s.args.s.n s.requires.0).most

pub returns-then-s-eq-ABSOLUTE : goal.returns-then-s-eq-ABSOLUTE
returns-then-s-eq-ABSOLUTE c =
    let e = c.fill.ensures in (
      λ older newer b k en es i j h. e.1 older newer b k en es i j h ∙ ap (λ (u : ℕ). distance_to older newer b u c.args.m (grid_vector i j)) (sym c.if-s-eq-ABSOLUTE.true),
      ap length e.0 ∙ length_fill _ 0 _ c.args.span (omega (arith, c.requires.3, c.requires.7, narrow-span (goal.at.returns-then-s-eq-ABSOLUTE c).Start)) ∙ c.requires.7,
    )

pub fill-requires-2 : goal.fill-requires-2
fill-requires-2 c =
    let p = c.requires in
    let a = c.args in
    let fit = squares_fit a.s a.m c.if-s-eq-ABSOLUTE.false p.2 in
    (p.0, fine_cut a.s.n a.m fit p.1, fit, p.3, p.4, p.5, p.6, p.7)

pub returns : goal.returns
returns c =
    let e = c.fill-2.ensures in (
      λ older newer b k en es i j h. e.1 older newer b k en es i j h ∙ ap (λ μ. distance_by μ b.setting.n c.args.m (newer_block (pair_of older newer b.setting) b.y b.x) (older_block (pair_of older newer b.setting) b.y b.x (grid_vector i j))) (measure_other c.args.s.measure c.if-s-eq-ABSOLUTE.false),
      ap length e.0 ∙ length_fill _ 0 _ c.args.span (omega (arith, c.requires.3, c.requires.7, narrow-span (goal.at.returns c).Start)) ∙ c.requires.7,
    )
