-- `add_row`: after each run of 4 the squares so far are there.
use Prim.Native.Nat.{ℕ, ◌+◌, ◌*◌, ◌≤◌, ◌<◌}
use mathlib.Core.Path.{◌≡◌, sym, ap, ◌∙◌, subst}
use native.Mathlib.Omega.{arith}
use lib.ListN.{length, get_or}
use mathlib.Core.List.{List}
use Rattle.base.specs.Lists.{fill_to, length_fill}
use Rattle.boxes.proofs.Runs.{run_inside}
use Rattle.pruned_narrow.specs.Narrow.{row_sum, row_more}
use Rattle.pruned_narrow.proofs.Rows.{row_first, run_bound, run_more}
use Rattle.pruned_narrow.proofs.add_row.Goals as goal
use Rattle.pruned_narrow.proofs.add_row.Goals.{Start}

long : (s : Start) → s.args.size ≤ length s.args.part.now
long s = omega (arith, s.requires.0, s.requires.1)

-- a run that is the whole row
all : (s : Start) (c : ℕ) (xs : List ℕ) → s.args.k ≡ c → let a = s.args in
    xs ≡ fill_to a.part.now 0 (λ t. get_or a.part.now t 0 + row_more a.boxes.now (a.at + t) a.own a.m c) a.size
    → xs ≡ fill_to a.part.now 0 (λ t. get_or a.part.now t 0 + row_more a.boxes.now (a.at + t) a.own a.m a.k) a.size
all s c xs e f = rw e f

pub returns-in-1 : goal.returns-in-1
returns-in-1 c = all (goal.at.returns-in-1 c).Start 1 _ c.in-1.is c.add_run.ensures

pub returns-in-2 : goal.returns-in-2
returns-in-2 c = all (goal.at.returns-in-2 c).Start 2 _ c.in-2.is c.add_run-in-2.ensures

pub loop-run-init : goal.loop-run-init
loop-run-init c = row_first _ _ _ _ _ _ _ (long (goal.at.loop-run-init c).Start) c.requires.3 c.requires.4

pub add_run-requires-in-loop-run : goal.add_run-requires-in-loop-run
add_run-requires-in-loop-run c =
    let a = c.args in
    let q = 4 * c.loop-run.run in
    let long = long (goal.at.add_run-requires-in-loop-run c).Start in
    let f : q + 4 ≤ a.k = omega arith in (
      c.requires.0,
      ap length c.loop-run.invariant ∙ length_fill a.part.now 0 _ _ (omega (arith, long)) ∙ c.requires.1,
      omega arith,
      omega arith,
      run_inside _ _ _ _ _ _ c.requires.3 q 4 f,
      subst (λ (xs : List ℕ). (t : ℕ) → t < a.size → get_or xs t 0 + row_sum a.boxes.now (a.at + a.m * q + t) a.m 4 ≤ 65535) (sym c.loop-run.invariant)
          (run_bound _ _ _ _ _ _ _ long c.requires.3 c.requires.4 q 4 f),
    )

pub loop-run-preserved : goal.loop-run-preserved
loop-run-preserved c =
    let q = 4 * c.loop-run.run in
    let next : q + 4 ≡ 4 * (c.loop-run.run + 1) = omega arith in
    rw (← next) (run_more _ _ _ _ _ _ _ (long (goal.at.loop-run-preserved c).Start) c.requires.3 c.requires.4 q 4 _ _ c.loop-run.invariant c.add_run-in-loop-run.ensures)
