-- `list_within`: after i turns the keys of those within the limit in the first i rows stand in front.
use Prim.Native.Nat.{ℕ, ◌+◌, ◌<◌}
use mathlib.Core.Path.{◌≡◌, ap}
use mathlib.Core.List.{List}
use native.Mathlib.Omega.{arith}
use lib.ListN.{length}
use Rattle.base.specs.Lists.{concat_to}
use Rattle.pruned_rule.specs.Sift.{kept}
use Rattle.pruned_sift.specs.Laid.{number_on, row_spots, within}
use Rattle.pruned_sift.proofs.Added.{added_first, added_as, added_join, added_last, rows_more, rows_none, rows_few, spots_rows}
use Rattle.pruned_sift.proofs.list_within.Goals as goal
use Rattle.pruned_sift.proofs.list_within.Goals.{At-loop-i, then-counts-i-gt0, else-counts-i-gt0}

-- row i has room
room : (l : At-loop-i) → l.loop-i.i < l.args.r.rows → let a = l.args in
    l.loop-i.n + length (within a.numbers.now a.pitch a.r a.most (row_spots a.r l.loop-i.i)) < length a.keys.now
room l h =
    let a = l.args in
    let v = number_on a.numbers.now a.pitch a.r in
    let all = ap (λ (ts : List ℕ). length (kept v a.most ts)) (spots_rows a.r) in
    omega (arith, l.loop-i.invariant.many, rows_few v a.most (row_spots a.r) l.loop-i.i a.r.rows h, all, l.requires.2)

pub loop-i-init : goal.loop-i-init
unfolding concat_to kept
loop-i-init c = added_first _ 0

pub list_row-n-requires : goal.list_row-n-requires
list_row-n-requires c =
    (c.requires.0, omega arith, c.codes_of-codes.ensures, rw c.loop-i.invariant.long (room (goal.at.list_row-n-requires c).At-loop-i (omega arith)))

pub loop-i-preserved : goal.loop-i-preserved
loop-i-preserved c =
    let l = c.loop-i in
    let a = c.args in
    let v = number_on a.numbers.now a.pitch a.r in
    let f = row_spots a.r in
    elim c.if-counts-i-gt0.branch [
      | then-counts-i-gt0 w ↦ rw (w.keys-is, w.n-is)
          (added_as (rows_more v a.most f l.i) (added_join l.invariant {us = kept v a.most (f l.i)} w.list_row-n.ensures))
      | else-counts-i-gt0 w ↦ rw (w.keys-is, w.n-is)
          (added_as (rows_none v a.most f l.i (omega (arith, w.if-counts-i-gt0.false, c.requires.1 l.i (omega arith)))) l.invariant)
    ]

pub shape_of-keys : goal.shape_of-keys
shape_of-keys c = c.loop-i.invariant.long

pub returns : goal.returns
returns c =
    let l = c.loop-i in
    let a = c.args in
    let e : l.i ≡ a.r.rows = omega arith in
    added_last (added_as (ap (λ (ts : List ℕ). within a.numbers.now a.pitch a.r a.most ts) (spots_rows a.r)) (rw e at l.invariant))
