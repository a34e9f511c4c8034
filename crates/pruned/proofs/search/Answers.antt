-- `search`: blank paper at once, or else memory of zeros, as large as N asks for.
use Prim.Native.Nat.{ℕ, ◌*◌, ◌≤◌, ◌<◌}
use mathlib.Core.Path.{◌≡◌, sym, ap, ◌∙◌}
use mathlib.Core.Bool.{false}
use native.Mathlib.Omega.{arith}
use lib.ListN.{get_or, replicate, get_or-replicate}
use Rattle.base.specs.Tests.{true_T}
use Rattle.frame.specs.Pictures.{pair_of}
use Rattle.frame.specs.declared.Region.{Region}
use Rattle.refusals.specs.Refusals.{block_size}
use Rattle.search.specs.Target.{still_cost}
use Rattle.reach.proofs.Candidates.{ready_standing, reach_bounds}
use Rattle.boxes.specs.Boxes.{area}
use Rattle.boxes.proofs.Rooms.{array_large, array_small}
use Rattle.pruned.specs.Answer.{still_distortion}
use Rattle.pruned.specs.Flow.{blank_answer}
use Rattle.pruned.proofs.Blank.{blank_is}
use Rattle.pruned.proofs.Levels.{size_below, small_fits}
use Rattle.pruned.proofs.search.Goals as goal
use Rattle.pruned.proofs.search.Goals.{After-block_distortion-e}

pub reach-r-requires : goal.reach-r-requires
reach-r-requires c = ready_standing _ _ _ c.args.matching.ready

pub block_distortion-e-requires : goal.block_distortion-e-requires
block_distortion-e-requires c = let p = c.args.matching.ready.placed in record { placed = p; down = p.down; across = p.across }

-- E begins as the distortion of (0,0)
first-is : (c : After-block_distortion-e) → let a = c.args in
    c.block_distortion-e.result ≡ still_distortion (pair_of a.matching.older.now a.matching.newer.now a.matching.block.setting) a.matching.block.y a.matching.block.x
first-is c = c.block_distortion-e.ensures ∙ sym (still_cost _ _ _)

pub blank_answer-requires : goal.blank_answer-requires
blank_answer-requires c =
    let d = reach_bounds c.args.matching.block (ready_standing _ _ _ c.args.matching.ready) in
    let e = c.reach-r.ensures in
    (c.args.matching.ready.placed.paired.allowed, rw e (omega (arith, d.few_rows)), rw e (omega (arith, d.few_columns)))

pub returns-then-is_blank : goal.returns-then-is_blank
returns-then-is_blank c =
    c.blank_answer.ensures
    ∙ ap (λ (r : Region). blank_answer c.args.matching.block.setting.n (r.rows * r.columns)) c.reach-r.ensures
    ∙ blank_is c.args.matching.older.now c.args.matching.newer.now c.args.matching.block c.args.matching.ready c.block_distortion-e.result (first-is (goal.at.returns-then-is_blank c).After-block_distortion-e)
    (true_T _ (sym c.is_blank.ensures ∙ c.if-is_blank.true))

zeros : (k m : ℕ) → 5 * m ≤ k → (u : ℕ) → u < m → get_or {A = ℕ} (replicate k 0) u 0 ≤ 255
zeros k m h u l = omega (arith, get_or-replicate {A = ℕ} k u 0 0 (omega arith))

pub search_with-requires : goal.search_with-requires
search_with-requires c =
    let n = c.args.matching.block.setting.n in
    let h = array_large n (block_size n c.args.matching.ready.placed.paired.allowed).most in
    (c.reach-r.ensures, h, zeros 25600 (area n) h, (omega arith, λ e. omega arith), first-is (goal.at.search_with-requires c).After-block_distortion-e)

pub search_with-requires-2 : goal.search_with-requires-2
search_with-requires-2 c =
    let n = c.args.matching.block.setting.n in
    let low = size_below n c.args.matching.ready.placed.paired.allowed c.if-s-eq32.false in
    let h = array_small n low in (
      c.reach-r.ensures,
      h,
      zeros 12800 (area n) h,
      (omega arith, λ e. absurd (true_T false (sym e ∙ small_fits c.args.matching.block.setting low))),
      first-is (goal.at.search_with-requires-2 c).After-block_distortion-e,
    )
