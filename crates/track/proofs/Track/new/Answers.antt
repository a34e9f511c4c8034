-- `new`: all zeros, and no travels.
use Rattle.track.proofs.Track.new.Goals as goal

pub returns : goal.returns
returns c = rw c.no_travels.ensures
