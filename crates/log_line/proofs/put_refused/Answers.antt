-- `put_refused`: the two words, a number after each.
use Rattle.put.specs.Put.{put_then}
use Rattle.log_line.specs.Line.{worded, spaced, refused_word, at_word}
use native.Mathlib.Omega.{arith}
use Rattle.log_line.proofs.put_refused.Goals as goal

pub returns : goal.returns
unfolding worded spaced refused_word at_word
returns c =
    let words = put_then c.put_word-a.ensures.0 (put_then c.put_field-b.ensures.0 c.put_word-c.ensures.0) in
    (put_then words c.put_field.ensures.0, omega arith)
