-- `unmoved`: the refused field's answer beside the old track.
use Rattle.track.proofs.unmoved.Goals as goal

pub returns : goal.returns
returns c = rw (c.refused_field.ensures, c.into.ensures)
