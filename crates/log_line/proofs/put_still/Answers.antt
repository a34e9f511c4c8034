-- `put_still`: six stores behind one test, or the word.
use Prim.Native.Nat.{suc, ◌+◌}
use mathlib.Core.Path.{◌≡◌, refl}
use native.Mathlib.Omega.{arith}
use native.Mathlib.Numerals.{add-one}
use Rattle.put.specs.Digits.{digits}
use Rattle.log_line.specs.Line.{worded, spaced, number_text}
use Rattle.log_line.proofs.put_still.Goals as goal

pub returns-then-at-out : goal.returns-then-at-out
unfolding worded spaced number_text digits
returns-then-at-out c =
    let at = c.args.at in
    let e2 : at + 2 ≡ suc (suc at) = omega arith in
    let e3 : at + 3 ≡ suc (suc (suc at)) = omega arith in
    let e4 : at + 4 ≡ suc (suc (suc (suc at))) = omega arith in
    let e5 : at + 5 ≡ suc (suc (suc (suc (suc at)))) = omega arith in
    (record { holds = rw (e2, e3, e4, e5, add-one); place = refl }, omega arith)

pub returns : goal.returns
unfolding worded spaced number_text digits
returns c = let w = c.put_word.ensures.0 in (w, omega (arith, w.place))
