-- `gauge_measure`: the call's own answer; the vector's parts come back from their bits as they went in.
use mir.Facts.{to_z-of_z}
use Rattle.gauge.proofs.gauge_measure.Goals as goal

pub returns : goal.returns
returns c =
    rw (to_z-of_z c.ranges.dy, to_z-of_z c.ranges.dx) at c.measure.ensures
