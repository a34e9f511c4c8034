-- `put_blocks`: each turn puts one block behind those before it.
use Prim.Native.Nat.{◌<◌}
use mathlib.Core.Path.{◌≡◌, refl, ◌∙◌}
use native.Mathlib.Omega.{arith}
use Rattle.put.specs.Put.{put_none, put_then}
use Rattle.base.specs.Lists.{concat_to, concat_to_more}
use Rattle.log_head.specs.Heads.{head_blocks, entry}
use Rattle.log_writing.specs.Parts.{block_bytes}
use Rattle.log_writing.proofs.put_blocks.Goals as goal

pub head_blocks-n-requires : goal.head_blocks-n-requires
head_blocks-n-requires c = c.requires.1.listed.fine

pub loop-k-init : goal.loop-k-init
unfolding concat_to
loop-k-init c = (c.requires.0, refl, put_none _ _)

pub put_block-next-requires : goal.put_block-next-requires
put_block-next-requires c =
    let l = c.loop-k in
    let p = c.requires.1 in
    let t : l.k < head_blocks c.args.head = omega (arith, c.head_blocks-n.ensures) in
    record {
      inside = (omega (arith, l.invariant.0, c.head_blocks-n.ensures), omega (arith, p.listed.room), omega (arith, p.listed.few));
      entry = entry _ p.listed.fine _ _ _ _ (p.each _ t);
    }

pub loop-k-preserved : goal.loop-k-preserved
loop-k-preserved c =
    let l = c.loop-k in (
      omega (arith, l.invariant.0, c.put_block-next.ensures.1),
      c.put_block-next.auto.out ∙ l.invariant.1,
      rw (concat_to_more (block_bytes _) l.k) (put_then l.invariant.2 c.put_block-next.ensures.0),
    )

pub shape_of-out : goal.shape_of-out
shape_of-out c = c.loop-k.invariant.1

pub returns : goal.returns
returns c =
    let l = c.loop-k in
    let e : l.k ≡ head_blocks c.args.head = omega (arith, c.head_blocks-n.ensures) in
    (rw e at l.invariant.2, omega (arith, l.invariant.0, c.head_blocks-n.ensures))
