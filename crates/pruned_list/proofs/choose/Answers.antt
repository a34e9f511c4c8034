-- `choose`: the least key of those measured is carried along, from 2^50 - 1 on, which no key reaches.
use mathlib.Core.Path.{◌≡◌, refl, ◌∙◌}
use native.Mathlib.Omega.{arith}
use lib.ListN.{length, get_or}
use Rattle.base.specs.Lists.{list_to}
use Rattle.base.specs.Least.{least_of, least_from}
use Rattle.pruned_rule.specs.Spots.{vector_on}
use Rattle.pruned_list.specs.Listed.{spot_of}
use Rattle.pruned_list.proofs.Measuring.{distortion_small, least_first, least_more}
use Rattle.pruned_list.proofs.choose.Goals as goal
use Rattle.pruned_list.proofs.choose.Invariants.{key_at}
use Rattle.pruned_list.proofs.choose.Goals.{At-loop-key}

pub loop-key-init : goal.loop-key-init
unfolding least_of least_from list_to
loop-key-init c = (omega arith, refl)

pub loop-key-preserved : goal.loop-key-preserved
loop-key-preserved c =
    let l = c.loop-key in
    let a = c.args in
    let f = key_at a.matching.older.now a.matching.newer.now a.matching.block a.keys.now in
    (omega (arith, c.lesser_measured-best.ensures), rw (least_more 1125899906842623 f l.key-index, ← l.invariant.1) c.lesser_measured-best.ensures)

pub returns : goal.returns
returns c =
    let l = c.loop-key in
    let a = c.args in
    let f = key_at a.matching.older.now a.matching.newer.now a.matching.block a.keys.now in
    let e : l.key-index ≡ length a.keys.now = omega arith in
    let small = distortion_small _ _ _ c.args.matching.ready c.args.matching.bytes.0 c.args.matching.bytes.1 (vector_on (spot_of (get_or a.keys.now 0 0))) in
    ((rw e at l.invariant.1) ∙ least_first 1125899906842623 f (length a.keys.now) c.requires.0 (omega (arith, small)), l.invariant.0)
