-- `is_from`: the shifted part is the sum, or lies outside window 16, where y does not.
use mathlib.Core.Path.{◌≡◌, sym, ◌∙◌}
use mir.Facts.{to_z-of_z}
use Rattle.signed.specs.Values.{shifted_by}
use Rattle.probe.proofs.Looks.{from_at, from_out}
use Rattle.probe.proofs.is_from.Goals as goal
use Rattle.probe.proofs.is_from.Goals.{After-shift}

shifted : (c : After-shift) → let a = c.args in c.shift.result ≡ shifted_by a.c a.d 32
shifted c = rw (to_z-of_z c.ranges.d) at c.shift.ensures

pub returns-in_default : goal.returns-in_default
returns-in_default c =
    let a = c.args in
    from_out a.c a.d c.requires.1 a.y c.requires.0 (sym (shifted (goal.at.returns-in_default c).After-shift) ∙ c.in_default.is)

pub returns : goal.returns
returns c =
    let a = c.args in
    from_at a.c a.d c.requires.1 a.y _ (sym (shifted (goal.at.returns c).After-shift) ∙ c.in-Some.is)
