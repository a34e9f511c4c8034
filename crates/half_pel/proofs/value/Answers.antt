-- `value`: a case for each of the four kinds of places; the tests say which pels lie inside the frame.
use mathlib.Core.Path.{◌≡◌}
use mathlib.Core.Bool.{true, false}
use Rattle.half_pel.specs.HalfPel.{value_of}
use Rattle.half_pel.proofs.value.Goals as goal

pub returns-then-across : goal.returns-then-across
unfolding value_of
returns-then-across c =
    let a = c.args in
    let down : a.down ≡ true = c.if-down.true in
    let across : a.across ≡ true = c.if-across.true in
    rw (down, across) c.between_four.ensures

pub returns-then-down : goal.returns-then-down
unfolding value_of
returns-then-down c =
    let a = c.args in
    let down : a.down ≡ true = c.if-down.true in
    let across : a.across ≡ false = c.if-across.false in
    rw (down, across) c.between_two.ensures

pub returns-then-across-2 : goal.returns-then-across-2
unfolding value_of
returns-then-across-2 c =
    let a = c.args in
    let down : a.down ≡ false = c.if-down.false in
    let across : a.across ≡ true = c.if-across-2.true in
    rw (down, across) c.between_two-then-across-2.ensures

pub returns : goal.returns
unfolding value_of
returns c =
    let a = c.args in
    let down : a.down ≡ false = c.if-down.false in
    let across : a.across ≡ false = c.if-across-2.false in
    rw (down, across)
