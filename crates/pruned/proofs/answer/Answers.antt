-- `answer`: full search's vector where many remain, or else the best of the listed.
use Prim.Native.Nat.{◌/◌, ◌%◌, ◌≤◌}
use mathlib.Core.Path.{◌≡◌, refl, ◌∙◌}
use lib.Seq.{length-take-le}
use Rattle.pruned_list.proofs.Front.{front_measured, front_spots}
use native.Mathlib.Omega.{arith}
use borrow.Author.Rules.{sfits_of}
use mir.Facts.{to_z-of_z}
use Rattle.pruned_rule.specs.Spots.{vector_on, choice_of}
use Rattle.pruned_list.specs.Listed.{distance_of, distortion_to}
use Rattle.pruned.proofs.Closing.{closing_room, closing_in, closing_chosen, full_answer}
use mir.Syntax.{w32}
use Rattle.pruned.proofs.answer.Goals as goal
use Rattle.pruned.proofs.answer.Goals.{After-spot_of-spot, Else-q-gt-FEW}

pub returns-then-q-gt-FEW : goal.returns-then-q-gt-FEW
returns-then-q-gt-FEW c =
    let a = c.args in
    let (y, x, d) = full_answer a.matching.older.now a.matching.newer.now a.matching.block _ c.search-f.ensures in
    rw (to_z-of_z (sfits_of {w = w32} c.struct_told-1.given.1.0.1), to_z-of_z (sfits_of {w = w32} c.struct_told-1.given.1.1.0.1), y, x, d) refl

low : (c : Else-q-gt-FEW) → c.args.q.count ≤ 64
low c = omega (arith, c.if-q-gt-FEW.false)

pub choose-key-requires : goal.choose-key-requires
choose-key-requires c =
    let p = c.requires in
    let h = closing_room c.args.matching.ready p (low (goal.at.choose-key-requires c).Else-q-gt-FEW) in
    (rw (length-take-le c.args.q.count c.args.keys.now h) p.some, front_spots c.args.keys.now c.args.q.count h c.args.matching.block (closing_in c.args.matching.ready p (low (goal.at.choose-key-requires c).Else-q-gt-FEW)))

-- the best of the listed
chosen : (c : After-spot_of-spot) → let a = c.args in
    let v = choice_of a.matching.block (distortion_to a.matching.older.now a.matching.newer.now a.matching.block) in
    (c.spot_of-spot.result / 64 ≤ 32) × (c.spot_of-spot.result % 64 ≤ 32) × (vector_on c.spot_of-spot.result ≡ v)
    × (distance_of c.choose-key.result ≡ distortion_to a.matching.older.now a.matching.newer.now a.matching.block v)
chosen c =
    let p = c.requires in
    let low : c.args.q.count ≤ 64 = omega (arith, c.if-q-gt-FEW.false) in
    let h = closing_room c.args.matching.ready p low in
    rw c.spot_of-spot.ensures
    (closing_chosen c.args.matching.ready p low c.choose-key.result (c.choose-key.ensures.0 ∙ front_measured c.args.keys.now c.args.q.count h (distortion_to c.args.matching.older.now c.args.matching.newer.now c.args.matching.block)))

pub unbiased-requires : goal.unbiased-requires
unbiased-requires c = (chosen c).0

pub unbiased-requires-2 : goal.unbiased-requires-2
unbiased-requires-2 c = (chosen (goal.at.unbiased-requires-2 c).After-spot_of-spot).1

pub returns : goal.returns
returns c =
    let k = chosen (goal.at.returns c).After-spot_of-spot in
    rw (
      to_z-of_z (sfits_of {w = w32} c.unbiased.type_inv),
      to_z-of_z (sfits_of {w = w32} c.unbiased-2.type_inv),
      c.unbiased.ensures,
      c.unbiased-2.ensures,
      k.3,
      ← k.2,
    ) refl
