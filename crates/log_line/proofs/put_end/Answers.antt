-- `put_end`: the word, then the number.
use Rattle.put.specs.Put.{put_then}
use Rattle.log_line.specs.Line.{worded, spaced, end_word}
use native.Mathlib.Omega.{arith}
use Rattle.log_line.proofs.put_end.Goals as goal

pub returns : goal.returns
unfolding worded spaced end_word
returns c =
    (put_then c.put_word-a.ensures.0 c.put_field.ensures.0, omega arith)
