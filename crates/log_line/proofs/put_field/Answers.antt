-- `put_field`: the digits, then the byte.
use Rattle.put.specs.Put.{put_then}
use Rattle.log_line.specs.Line.{number_text}
use Rattle.put.specs.Digits.{digits_length}
use native.Mathlib.Omega.{arith}
use Rattle.log_line.proofs.put_field.Goals as goal

pub put_byte-requires : goal.put_byte-requires
put_byte-requires c =
    omega (arith, c.put_number-k.ensures.place, digits_length 20 c.args.n)

pub returns : goal.returns
unfolding number_text
returns c =
    let few = digits_length 20 c.args.n in
    (put_then c.put_number-k.ensures c.put_byte.ensures, omega (arith, few, c.put_number-k.ensures.place, c.put_byte.ensures.place))
