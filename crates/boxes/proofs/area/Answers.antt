-- `area`: the numbers fit.
use mathlib.Core.Path.{refl}
use Rattle.boxes.specs.Boxes.{area}
use Rattle.boxes.proofs.area.Goals as goal

pub returns : goal.returns
unfolding area
returns c = refl
