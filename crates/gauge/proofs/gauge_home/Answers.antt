-- `gauge_home`: the track's own answer; the place comes back from its bits as it went in.
use mir.Facts.{to_z-of_z}
use Rattle.gauge.proofs.gauge_home.Goals as goal

pub returns : goal.returns
returns c = rw (to_z-of_z c.ranges.y, to_z-of_z c.ranges.x) at c.home.ensures
