-- `home`: a refusal, or the place, which comes back from its bits unchanged, and no travels.
use borrow.Author.Tests.{ne_eqb}
use mir.Facts.{to_z-of_z}
use Rattle.refusals.specs.Numbers.{number_some}
use Rattle.track.specs.Track.{track_home}
use Rattle.track.proofs.Track.home.Goals as goal

pub returns-in-Err : goal.returns-in-Err
unfolding track_home
returns-in-Err c =
    let e = rw (to_z-of_z c.ranges.y, to_z-of_z c.ranges.x) at c.in-Err.ensures in
    rw (c.into.ensures, ← e, ne_eqb _ 0 (number_some c.in-Err.refusal))

pub returns : goal.returns
unfolding track_home
returns c =
    let e = rw (to_z-of_z c.ranges.y, to_z-of_z c.ranges.x) at c.in_default.ensures in
    rw (← e, to_z-of_z c.ranges.y, to_z-of_z c.ranges.x, c.no_travels.ensures)
