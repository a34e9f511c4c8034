-- `put_number`: a number below 10 is its one digit.
use Rattle.put.specs.Digits.{digits_one}
use mathlib.Core.Path.{sym}
use native.Mathlib.Omega.{arith}
use Rattle.put.proofs.put_number.Goals as goal

pub returns-then-n-lt10 : goal.returns-then-n-lt10
returns-then-n-lt10 c =
    let p = c.before.before in
    let d = p.before in
    let s = d.before.before.before.before in
    rw (digits_one 20 s.args.n (omega arith) (omega arith), sym d.digit.ensures) p.put_byte.ensures
