-- `places_more`: a store in the next place; or 63 places, each with what stood behind it, and a store in the last.
use mathlib.Core.Path.{◌≡◌}
use native.Mathlib.Omega.{arith}
use borrow.Author.Rules.{rules}
use lib.ListN.{length}
use mir.Facts.{to_z-of_z}
use Rattle.base.specs.Lists.{fill_none, fill_front}
use Rattle.recent.specs.Recent.{most_held}
use Rattle.recent.proofs.Held.{behind, more_next, more_last}
use mir.Syntax.{w32}
use Rattle.recent.proofs.places_more.Goals as goal

pub returns-then-held-lt-MOST : goal.returns-then-held-lt-MOST
returns-then-held-lt-MOST c =
    let h : length c.args.places ≡ most_held = search rules in
    rw (to_z-of_z c.ranges.z) (more_next _ _ _ h c.if-held-lt-MOST.true)

pub loop-k-init : goal.loop-k-init
loop-k-init c = fill_none _ 0 _

pub loop-k-preserved : goal.loop-k-preserved
loop-k-preserved c =
    let l = c.loop-k in
    let a = c.args in
    let h : length a.places ≡ most_held = search rules in
    rw (to_z-of_z {w = w32} {z = behind a.places l.k} (search rules), l.invariant) (fill_front a.places (behind a.places) l.k (omega arith))

pub returns : goal.returns
returns c =
    let l = c.loop-k in
    let e : l.k ≡ 63 = omega arith in
    let h : length c.args.places ≡ most_held = search rules in
    rw (to_z-of_z c.ranges.z, l.invariant, e) (more_last _ _ _ h (omega arith))
