-- `begin`: all spots are there, and listed unless they are tested by the distances of all.
use Prim.Native.Nat.{◌*◌, ◌≤◌}
use mathlib.Core.Path.{◌≡◌, refl, sym, ap, ◌∙◌}
use native.Mathlib.Omega.{arith}
use borrow.Author.Rules.{Fits-under}
use mir.Syntax.{w64}
use lib.ListN.{length}
use Rattle.base.specs.Tests.{true_T}
use Rattle.frame.specs.declared.Region.{Region}
use Rattle.reach.specs.Reach.{reach}
use Rattle.pruned_rule.specs.Spots.{spots}
use Rattle.pruned_rule.proofs.Spots.{spots_length}
use Rattle.pruned_list.proofs.Listed.{front_listed}
use Rattle.pruned.proofs.Levels.{reach_room, list_room, unlisted_held, listed_held}
use Rattle.pruned.proofs.begin.Goals as goal
use Rattle.pruned.proofs.begin.Goals.{Then-not-by_all, Start}

-- as many spots as rows and columns
many : (s : Start) → length (spots (reach s.args.b)) ≡ s.args.r.rows * s.args.r.columns
many s = spots_length (reach s.args.b) ∙ ap (λ (r : Region). r.rows * r.columns) (sym s.requires.2)

pub overflow_mul-count : goal.overflow_mul-count
overflow_mul-count c = Fits-under w64 _ 1090 (omega (arith, (reach_room c.args.b c.requires.0 c.args.r c.requires.2).0)) tt

-- the list has room for all
listable : (l : Then-not-by_all) → l.args.r.rows * l.args.r.columns ≤ length l.args.keys.now
listable l =
    list_room l.args.b.setting _ _ (sym l.by_all.ensures ∙ l.if-not-by_all.true) l.requires.3 (reach_room l.args.b l.requires.0 l.args.r l.requires.2).0

pub list_every-requires : goal.list_every-requires
list_every-requires c =
    let k = reach_room c.args.b c.requires.0 c.args.r c.requires.2 in
    (k.1, k.2, listable (goal.at.list_every-requires c).Then-not-by_all)

pub returns-then-not-by_all : goal.returns-then-not-by_all
returns-then-not-by_all c =
    let e = c.list_every.ensures in
    let long = c.list_every.auto.keys in
    let all = many (goal.at.returns-then-not-by_all c).Start in
    let front = front_listed (λ v. 0) (spots (reach c.args.b)) _ _ _ (sym all) (rw c.requires.2 at e.1) in
    (listed_held c.args.b c.args.b.setting.n (spots (reach c.args.b)) _ _ _ (λ v. 0) all (rw long (listable (goal.at.returns-then-not-by_all c).Then-not-by_all)) front, refl, long)

pub returns-else-not-by_all : goal.returns-else-not-by_all
returns-else-not-by_all c =
    (unlisted_held c.args.b c.args.b.setting.n (spots (reach c.args.b)) _ _ _ (many (goal.at.returns-else-not-by_all c).Start) (true_T _ (sym c.by_all.ensures ∙ c.if-not-by_all.false)), refl, refl)
