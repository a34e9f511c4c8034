-- `table`: the constant's 2,178 numbers are the definition's, compared one by one.
use mathlib.Core.Path.{refl}
use Rattle.order.specs.Preference.{preference, flat}
use Rattle.order.proofs.table.Goals as goal

pub returns : goal.returns
unfolding preference flat
returns c = refl
