-- `put_end`: the command, then the number.
use Rattle.put.specs.Put.{put_then}
use Rattle.log_writing.specs.Parts.{end_bytes}
use Rattle.log_writing.proofs.put_end.Goals as goal

pub returns : goal.returns
unfolding end_bytes
returns c = put_then c.put_byte-blocks.ensures c.put_four.ensures
