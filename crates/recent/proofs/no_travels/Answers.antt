-- `no_travels`: two arrays of zeros.
use mathlib.Core.Path.{refl}
use Rattle.recent.specs.Recent.{no_travels}
use Rattle.recent.proofs.no_travels.Goals as goal

pub returns : goal.returns
unfolding no_travels
returns c = refl
