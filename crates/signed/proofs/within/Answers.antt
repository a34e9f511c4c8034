-- `within`: the magnitude, compared at the width of w.
use mir.Facts.{to_z-of_z}
use Rattle.signed.proofs.within.Goals as goal

pub returns : goal.returns
returns c = rw (c.unsigned_abs.ensures.value, to_z-of_z c.before.ranges.d)
