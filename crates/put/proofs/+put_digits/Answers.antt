-- `put_digits`: the digits of n / 10, then the last.
use Rattle.std.proofs.Common.{◌-◌, ◌/◌, arith, sym}
use Rattle.put.specs.Put.{put_none, put_then}
use Rattle.put.specs.Digits.{digits, digits_one, digits_more, digits_length}
use Rattle.put.proofs.+put_digits.Goals as goal

pub returns-then-most-eq0 : goal.returns-then-most-eq0
unfolding digits
returns-then-most-eq0 t c = rw c.if-most-eq0.true (put_none _ _)

pub returns-then-n-lt10 : goal.returns-then-n-lt10
returns-then-n-lt10 t c =
    rw (digits_one c.args.most c.args.n (omega arith) (omega arith), sym c.digit.ensures) c.put_byte.ensures

pub put_byte-requires-2 : goal.put_byte-requires-2
put_byte-requires-2 t c =
    omega (arith, c.put_digits-k.ensures.place, digits_length (c.args.most - 1) (c.args.n / 10), c.requires)

pub returns : goal.returns
returns t c =
    rw (digits_more c.args.most c.args.n (omega arith) (omega arith), sym c.digit-2.ensures)
    (put_then c.put_digits-k.ensures c.put_byte-2.ensures)
