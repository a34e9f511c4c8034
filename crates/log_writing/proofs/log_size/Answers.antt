-- `log_size`: the bytes of head and end, and those of each block.
use Prim.Native.Nat.{◌<◌}
use mathlib.Core.Path.{◌≡◌, ap, ◌∙◌}
use native.Mathlib.Omega.{arith}
use Rattle.log_head.specs.Heads.{head_blocks, entry}
use Rattle.log_writing.specs.Parts.{head_bytes}
use Rattle.log_writing.proofs.Bytes.{head_few, sized_first, sized_more, sized_all}
use Rattle.log_command.specs.Commands.{head_number, size_by, head_size}
use Rattle.log_writing.proofs.log_size.Goals as goal
use Rattle.log_writing.proofs.log_size.Goals.{After-size_by-size}

pub head_blocks-n-requires : goal.head_blocks-n-requires
head_blocks-n-requires c = c.requires.listed.fine

-- how many bytes the head takes
first : (c : After-size_by-size) → c.size_by-size.result ≡ size_by (head_number c.args.head)
first c = c.size_by-size.ensures ∙ ap size_by c.head_number.ensures

pub overflow_add-size : goal.overflow_add-size
unfolding head_bytes
overflow_add-size c = let h = c.args.head in omega (arith, first c, head_size h, head_few h)

pub loop-k-init : goal.loop-k-init
unfolding head_bytes
loop-k-init c =
    let h = c.args.head in
    (omega (arith, first c, head_size h, head_few h), sized_first _ _)

pub block_size-size-requires : goal.block_size-size-requires
block_size-size-requires c =
    let l = c.loop-k in
    let p = c.requires in
    let t : l.k < head_blocks c.args.head = omega (arith, c.head_blocks-n.ensures) in
    record {
      inside = (omega (arith, p.listed.room), omega (arith, p.listed.few));
      entry = entry _ p.listed.fine _ _ _ _ (p.each _ t);
    }

pub loop-k-preserved : goal.loop-k-preserved
loop-k-preserved c =
    let l = c.loop-k in
    (omega (arith, l.invariant.0, c.block_size-size.ensures.1), sized_more _ _ _ _ _ l.invariant.1 c.block_size-size.ensures.0)

pub returns : goal.returns
returns c =
    let l = c.loop-k in
    let e : l.k ≡ head_blocks c.args.head = omega (arith, c.head_blocks-n.ensures) in
    sized_all _ _ _ (rw (e, first (goal.at.returns c).After-size_by-size) at l.invariant.1)
