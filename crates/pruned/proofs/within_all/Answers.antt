-- `within_all`: many are counted, few are listed too.
use Prim.Native.Nat.{◌+◌, ◌≤◌}
use mathlib.Core.Path.{◌≡◌, refl}
use native.Mathlib.Omega.{arith}
use lib.ListN.{length, take}
use Rattle.pruned_rule.specs.Spots.{spots}
use Rattle.pruned_list.specs.Listed.{keys_of}
use Rattle.pruned_sift.specs.Laid.{Laid, within}
use Rattle.pruned_sift.proofs.Distances.{laid}
use Rattle.pruned.proofs.Levels.{many_left, few_left}
use Rattle.pruned.proofs.within_all.Goals as goal
use Rattle.pruned.proofs.within_all.Goals.{Start}

laid_in : (s : Start) → Laid s.args.numbers.now (s.args.b.setting.n + 32) s.args.r
laid_in s = let p = s.requires in rw p.2 (laid s.args.b p.0 s.args.b.setting.n p.1 s.args.numbers.now p.5)

pub most-limit-requires : goal.most-limit-requires
most-limit-requires c = c.requires.3

pub within-count-requires : goal.within-count-requires
within-count-requires c = (laid_in (goal.at.within-count-requires c).Start, c.requires.7, refl)

pub returns-else-count-le-FEW : goal.returns-else-count-le-FEW
returns-else-count-le-FEW c =
    let a = c.args in
    let p = c.requires in (
      refl,
      refl,
      λ cost are.
          many_left a.b p.0 a.m a.e a.numbers.now (λ j. omega (arith, c.type_inv.numbers j)) a.r p.2 _ _ c.most-limit.ensures c.within-count.ensures.0 cost are c.if-count-le-FEW.false
          p.4 _,
    )

pub list_within-requires : goal.list_within-requires
list_within-requires c =
    (laid_in (goal.at.list_within-requires c).Start, c.within-count.ensures.1, omega (arith, c.within-count.ensures.0, c.if-count-le-FEW.true, c.requires.6))

pub returns-then-count-le-FEW : goal.returns-then-count-le-FEW
returns-then-count-le-FEW c =
    let a = c.args in
    let p = c.requires in
    let long = c.list_within.auto.keys in
    let e = c.list_within.ensures in
    let room : c.within-count.result ≤ length c.list_within.new.keys = omega (arith, long, c.if-count-le-FEW.true, p.6) in
    let front : take c.within-count.result c.list_within.new.keys
    ≡ keys_of (λ v. 0) (within a.numbers.now (a.b.setting.n + 32) a.r c.most-limit.result (spots a.r)) =
    rw (c.within-count.ensures.0, ← e.0) e.1 in (
      refl,
      long,
      λ cost are.
          few_left a.b p.0 a.m a.e a.numbers.now (λ j. omega (arith, c.type_inv.numbers j)) a.r p.2 _ _ c.most-limit.ensures c.within-count.ensures.0 cost are _ room front,
    )
