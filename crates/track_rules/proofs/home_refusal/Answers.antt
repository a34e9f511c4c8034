-- `home_refusal`: the two tests are those of the definition.
use mathlib.Core.Path.{◌≡◌, ap, ◌∙◌}
use mir.Facts.{to_z-of_z}
use Rattle.base.specs.Tests.{told}
use Rattle.track_rules.specs.Rules.{in_range}
use Rattle.track_rules.proofs.home_refusal.Goals as goal
use Rattle.track_rules.proofs.home_refusal.Goals.{After-within, After-within-2}

-- a number comes back from its bits unchanged
row : (c : After-within) → c.within.result ≡ in_range c.args.y
row c = c.within.ensures ∙ ap in_range (to_z-of_z c.ranges.y)

column : (c : After-within-2) → c.within-2.result ≡ in_range c.args.x
column c = c.within-2.ensures ∙ ap in_range (to_z-of_z c.ranges.x)

pub returns-then-not-within : goal.returns-then-not-within
returns-then-not-within c = rw (told (row (goal.at.returns-then-not-within c).After-within) c.if-not-within.true)

pub returns-then-not-within-2 : goal.returns-then-not-within-2
returns-then-not-within-2 c =
    rw (told (row (goal.at.returns-then-not-within-2 c).After-within) c.if-not-within.false, told (column (goal.at.returns-then-not-within-2 c).After-within-2) c.if-not-within-2.true)

pub returns : goal.returns
returns c =
    rw (told (row (goal.at.returns c).After-within) c.if-not-within.false, told (column (goal.at.returns c).After-within-2) c.if-not-within-2.false)
