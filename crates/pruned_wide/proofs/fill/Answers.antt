-- `fill`: the boxes of a block are what `add_rows` needs.
use Prim.Native.Nat.{ℕ, ◌*◌, ◌≤◌, ◌<◌}
use mathlib.Core.Path.{◌≡◌}
use native.Mathlib.Omega.{arith}
use mathlib.Core.List.{List}
use Rattle.base.specs.Lists.{fill_to}
use Rattle.refusals.specs.Refusals.{block_size}
use Rattle.boxes.specs.Boxes.{level_of}
use Rattle.boxes.specs.Distances.{Numbered}
use Rattle.boxes.specs.declared.Level.{Level}
use Rattle.boxes.proofs.Runs.{parts}
use Rattle.boxes.specs.Runs.{Runs}
use Rattle.pruned_wide.specs.Wide.{squares_of, squares_at, Wide}
use Rattle.pruned_wide.proofs.Levels.{wide, numbered}
use Rattle.pruned_wide.proofs.fill.Goals as goal
use Rattle.pruned_wide.proofs.fill.Goals.{Start}

few : (s : Start) → s.args.n ≤ 32
few s = (block_size s.args.n s.requires.0).most

-- what the level is
ready : (s : Start) (l : Level) → l ≡ level_of s.args.n s.args.m → Runs l.k × (0 < l.k) × Wide s.args.boxes.now l s.args.span
ready s l e =
    let p = s.requires in
    let c = parts s.args.n p.0 s.args.m p.1 in
    rw e (c.runs, c.some, wide s.args.n s.args.m s.args.span _ (few s) p.1 c.whole p.2 p.4 p.3 p.5 p.6)

done : (s : Start) (l : Level) (xs : List ℕ) → l ≡ level_of s.args.n s.args.m
    → xs ≡ fill_to s.args.numbers.now 0 (squares_of s.args.boxes.now l.at (l.pitch * l.m) l.own (l.n * l.m) l.m l.k) s.args.span
    → let a = s.args in
    (xs ≡ fill_to a.numbers.now 0 (squares_at a.boxes.now a.n a.m) a.span) × Numbered 2 a.boxes.now a.n a.m a.span xs
done s l xs e h =
    let a = s.args in
    let g = rw e at h in
    (g, numbered _ a.numbers.now xs _ _ _ s.requires.1 (omega (arith, few s, s.requires.3, s.requires.7)) g)

pub level_of-requires : goal.level_of-requires
level_of-requires c = (few (goal.at.level_of-requires c).Start, c.requires.1)

pub add_rows-requires : goal.add_rows-requires
add_rows-requires c =
    let r = ready (goal.at.add_rows-requires c).Start _ c.level_of.ensures in
    (omega (arith, few (goal.at.add_rows-requires c).Start, c.requires.3), c.requires.7, r.0, r.1, r.2)

pub returns : goal.returns
returns c =
    done (goal.at.returns c).Start _ _ c.level_of.ensures c.add_rows.ensures
