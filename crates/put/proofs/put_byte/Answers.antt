-- `put_byte`: stored where the buffer goes on, else nothing.
use Rattle.put.specs.Put.{put_past}
use Rattle.put.proofs.put_byte.Goals as goal

pub returns : goal.returns
returns c = put_past _ _ _ c.if-at-out.false
