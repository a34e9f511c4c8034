-- `put_head`: the numbers, one after the other.
use Rattle.put.specs.Put.{put_then}
use Rattle.log_line.specs.Line.{worded, spaced}
use native.Mathlib.Omega.{arith}
use Rattle.log_line.proofs.put_head.Goals as goal

pub returns : goal.returns
unfolding worded spaced
returns c =
    let last = put_then c.put_field-d.ensures.0 c.put_search.ensures.0 in
    (put_then c.put_field-a.ensures.0 (put_then c.put_field-b.ensures.0 (put_then c.put_field-c.ensures.0 last)), omega arith)
