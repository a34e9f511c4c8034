-- `add_row`: after each run of 4 the squares so far are there.
use Rattle.std.proofs.Common.{nat_eq}
use Prim.Native.Nat.{ℕ, ◌+◌, ◌*◌, ◌/◌, ◌≤◌, ◌<◌}
use mathlib.Core.Path.{◌≡◌, sym, ap, ◌∙◌, subst}
use mathlib.Core.Bool.{not}
use native.Mathlib.Omega.{arith}
use lib.ListN.{length, get_or}
use mathlib.Core.List.{List}
use Rattle.base.specs.Lists.{fill_to, length_fill}
use Rattle.boxes.specs.Runs.{carried}
use Rattle.boxes.proofs.Runs.{runs_fours, run_inside}
use Rattle.pruned_wide.specs.Wide.{row_squares}
use Rattle.pruned_wide.proofs.Rows.{run_more, run_bound, first_inside, first_bound}
use Rattle.pruned_wide.proofs.add_row.Given.{Over}
use Rattle.pruned_wide.proofs.add_row.Goals as goal
use Rattle.pruned_wide.proofs.add_row.Goals.{In_default, Start}

module _ (g : Over) (s : Start g) where
  long : s.args.span ≤ length s.args.numbers.now
  long = omega (arith, s.requires.0, s.requires.1)

  -- what the row is added to
  abbrev first : ℕ → ℕ
  first t = carried (not (nat_eq g.row.FRESH 0)) (get_or s.args.numbers.now t 0)

  -- a run that is the whole row
  all : (c : ℕ) (xs : List ℕ) → s.args.k ≡ c → let a = s.args in
      xs ≡ fill_to a.numbers.now 0 (λ t. first t + row_squares a.boxes.now (a.at + t) a.own a.m c) a.span
      → xs ≡ fill_to a.numbers.now 0 (λ t. first t + row_squares a.boxes.now (a.at + t) a.own a.m a.k) a.span
  all c xs e f = rw e f

-- k is some times 4, and not 0
whole : (g : Over) (c : In_default g) → (4 * (c.args.k / 4) ≡ c.args.k) × (1 ≤ c.args.k / 4)
whole g c = let f = runs_fours _ c.requires.2 (λ e. omega arith) (λ e. omega arith) in (omega (arith, f.is), omega (arith, f.is, c.requires.3))

pub returns-in-1 : goal.returns-in-1
returns-in-1 g c = all g (goal.at.returns-in-1 g c).Start 1 _ c.in-1.is c.add_run.ensures

pub returns-in-2 : goal.returns-in-2
returns-in-2 g c = all g (goal.at.returns-in-2 g c).Start 2 _ c.in-2.is c.add_run-in-2.ensures

pub add_run-requires-in_default : goal.add_run-requires-in_default
add_run-requires-in_default g c =
    let s = (goal.at.add_run-requires-in_default g c).Start in
    let w = whole g (goal.at.add_run-requires-in_default g c).In_default in
    let f : 4 ≤ c.args.k = omega (arith, w) in (
      c.requires.0,
      c.requires.1,
      omega arith,
      omega arith,
      first_inside _ c.args.numbers.now (first g s) _ _ _ _ (long g s) _ c.requires.4 c.requires.5 4 f,
      first_bound _ c.args.numbers.now (first g s) _ _ _ _ (long g s) _ c.requires.4 c.requires.5 4 f,
    )

pub loop-run-init : goal.loop-run-init
loop-run-init g c = c.add_run-in_default.ensures

pub add_run-requires-in-loop-run : goal.add_run-requires-in-loop-run
add_run-requires-in-loop-run g c =
    let a = c.args in
    let s = (goal.at.add_run-requires-in-loop-run g c).Start in
    let q = 4 * c.loop-run.run in
    let f : q + 4 ≤ a.k = omega arith in (
      c.requires.0,
      ap length c.loop-run.invariant ∙ length_fill a.numbers.now 0 _ _ (omega (arith, long g s)) ∙ c.requires.1,
      omega arith,
      omega arith,
      run_inside _ _ _ _ _ _ c.requires.4 q 4 f,
      subst (λ (xs : List ℕ). (t : ℕ) → t < a.span
          → get_or xs t 0 + row_squares a.boxes.now (a.at + a.m * q + t) (a.own + a.m * q) a.m 4 ≤ 4294967295) (sym c.loop-run.invariant)
          (run_bound _ a.numbers.now (first g s) _ _ _ _ (long g s) _ c.requires.4 c.requires.5 q 4 f),
    )

pub loop-run-preserved : goal.loop-run-preserved
loop-run-preserved g c =
    let a = c.args in
    let s = (goal.at.loop-run-preserved g c).Start in
    let q = 4 * c.loop-run.run in
    let next : q + 4 ≡ 4 * (c.loop-run.run + 1) = omega arith in
    rw (← next) (run_more a.boxes.now a.numbers.now (first g s) a.at a.own a.m _ (long g s) q 4 _ _ c.loop-run.invariant c.add_run-in-loop-run.ensures)
