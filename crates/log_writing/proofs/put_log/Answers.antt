-- `put_log`: head, blocks and end, one after the other.
use native.Mathlib.Omega.{arith}
use Rattle.put.specs.Put.{put_then}
use Rattle.log_writing.proofs.Bytes.{head_few, log_parts}
use Rattle.log_writing.proofs.put_log.Goals as goal

pub put_blocks-end-requires : goal.put_blocks-end-requires
put_blocks-end-requires c =
    (omega (arith, head_few c.args.head, c.put_head-blocks.ensures.place), c.requires)

pub returns : goal.returns
returns c =
    rw (log_parts _ _)
    (put_then c.put_head-blocks.ensures
    (put_then c.put_blocks-end.ensures.0 (rw c.head_blocks.ensures.0 at c.put_end.ensures)))
