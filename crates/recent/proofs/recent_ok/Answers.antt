-- `recent_ok`: the three tests are those of the definition.
use mathlib.Core.Path.{◌≡◌, ap, ◌∙◌}
use mathlib.Core.Bool.{true}
use native.Mathlib.Omega.{arith}
use borrow.Author.Rules.{rules}
use borrow.Author.Tests.{le-leb, lt-leb}
use lib.Dec.{leb}
use mir.Facts.{to_z-of_z}
use Rattle.base.specs.Tests.{told}
use Rattle.recent.specs.Recent.{most_held, parts_ok, recent_ok}
use mir.Syntax.{w32}
use Rattle.recent.proofs.recent_ok.Goals as goal
use Rattle.recent.proofs.recent_ok.Goals.{After-parts_ok, Else-held-gt-MOST}

pub returns-then-held-gt-MOST : goal.returns-then-held-gt-MOST
unfolding recent_ok
returns-then-held-gt-MOST c = rw (lt-leb c.args.r.held most_held (omega arith))

few : (c : Else-held-gt-MOST) → leb c.args.r.held most_held ≡ true
few c = le-leb c.args.r.held most_held (omega arith)

-- the sums come back from their bits unchanged
down_is : (c : After-parts_ok) → let r = c.args.r in c.parts_ok.result ≡ parts_ok r.dy r.held r.down
down_is c =
    let r = c.args.r in
    c.parts_ok.ensures ∙ ap (parts_ok r.dy r.held) (to_z-of_z {w = w32} {z = r.down} (search rules))

pub returns-then-not-parts_ok : goal.returns-then-not-parts_ok
unfolding recent_ok
returns-then-not-parts_ok c = rw (few (goal.at.returns-then-not-parts_ok c).Else-held-gt-MOST, told (down_is (goal.at.returns-then-not-parts_ok c).After-parts_ok) c.if-not-parts_ok.true)

pub returns : goal.returns
unfolding recent_ok
returns c =
    let r = c.args.r in
    rw (few (goal.at.returns c).Else-held-gt-MOST, told (down_is (goal.at.returns c).After-parts_ok) c.if-not-parts_ok.false)
    (c.parts_ok-2.ensures ∙ ap (parts_ok r.dx r.held) (to_z-of_z {w = w32} {z = r.across} (search rules)))
