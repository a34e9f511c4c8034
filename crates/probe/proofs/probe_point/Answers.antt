-- `probe_point`: the point is no candidate, or over the least, or its distortion is less than the least, or no less.
use mathlib.Core.Path.{sym, ◌∙◌}
use native.Mathlib.Omega.{arith}
use Rattle.probe.proofs.Looks.{holds_same, holds_more, probe_point_none, probe_point_over, probe_point_less, probe_point_more}
use Rattle.probe.proofs.probe_point.Goals as goal

pub returns-then-d-s : goal.returns-then-d-s
returns-then-d-s c =
    record { is = probe_point_less _ _ _ _ (sym c.against.ensures ∙ c.in-Distortion.is) c.if-d-s.true; few = omega arith }

pub returns-in-NotCandidate : goal.returns-in-NotCandidate
returns-in-NotCandidate c =
    holds_same c.requires (probe_point_none _ _ _ (sym c.against.ensures ∙ c.in-NotCandidate.is))

pub returns-in-OverCeiling : goal.returns-in-OverCeiling
returns-in-OverCeiling c =
    holds_more c.requires c.one_more.ensures (probe_point_over _ _ _ (sym c.against.ensures ∙ c.in-OverCeiling.is))

pub returns-else-d-s : goal.returns-else-d-s
returns-else-d-s c =
    holds_more c.requires c.one_more-in-Distortion.ensures (probe_point_more _ _ _ _ (sym c.against.ensures ∙ c.in-Distortion.is) c.if-d-s.false)
