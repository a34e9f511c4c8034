-- `put_head`: each number of an accepted head fits its bytes, and they are put in order.
use native.Mathlib.Omega.{arith}
use Rattle.log_writing.specs.Parts.{head_bytes}
use Rattle.put.specs.Put.{put_then}
use Rattle.log_head.specs.Heads.{headed}
use Rattle.log_writing.proofs.put_head.Goals as goal

pub put_two-height-requires : goal.put_two-height-requires
put_two-height-requires c = (omega arith, omega (arith, (headed _ c.requires).fitting.wide))

pub put_two-n-requires : goal.put_two-n-requires
put_two-n-requires c = (omega arith, omega (arith, (headed _ c.requires).fitting.high))

pub overflow_cast-h : goal.overflow_cast-h
overflow_cast-h c = omega (arith, (headed _ c.requires).size)

pub overflow_cast-h-2 : goal.overflow_cast-h-2
overflow_cast-h-2 c = omega (arith, (headed _ c.requires).window)

pub overflow_cast-h-3 : goal.overflow_cast-h-3
overflow_cast-h-3 c = omega (arith, (headed _ c.requires).searching)

pub returns : goal.returns
unfolding head_bytes
returns c =
    let last = put_then c.put_byte-w.ensures (put_then c.put_byte-search.ensures (put_then c.put_byte-measure.ensures c.put_measure.ensures)) in
    rw (← c.head_number.ensures)
    (put_then c.put_byte-width.ensures (put_then c.put_two-height.ensures (put_then c.put_two-n.ensures last)))
