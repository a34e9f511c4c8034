-- `by_rows`: in reach the copies have the keys of the frames, so the least by the copies is the least.
use mathlib.Core.Path.{refl, sym, ◌∙◌}
use native.Mathlib.Omega.{arith}
use Rattle.distortion.specs.Blocks.{kernel_is}
use Rattle.reach.proofs.Candidates.{ready_standing}
use Rattle.full.proofs.Reached.{least_same}
use Rattle.full.proofs.Copies.{copies_long, key-in-copy}
use Rattle.full.proofs.Ready.{size, around, middle}
use Rattle.full.proofs.by_rows.Goals as goal

pub copy_window-requires : goal.copy_window-requires
copy_window-requires c =
    (ready_standing _ _ _ c.args.matching.ready, size _ _ _ c.args.matching.ready, omega (arith, c.args.matching.ready.placed.paired.older_whole), c.requires.0, refl)

pub copy_block-requires : goal.copy_block-requires
copy_block-requires c =
    let n = size _ _ _ c.args.matching.ready in
    (ready_standing _ _ _ c.args.matching.ready, n, omega (arith, c.args.matching.ready.placed.paired.newer_whole), omega arith, omega (arith, n), omega arith)

pub kernel-requires : goal.kernel-requires
kernel-requires c = omega (arith, size _ _ _ c.args.matching.ready)

pub rows_least-requires : goal.rows_least-requires
rows_least-requires c =
    let p = c.requires in
    let t = ready_standing _ _ _ c.args.matching.ready in
    let w = c.copy_window.ensures in
    let b = c.copy_block.ensures in
    let k = kernel_is c.kernel.ensures c.args.matching.ready.placed.paired.allowed in
    let long = copies_long c.args.matching.older.now c.args.matching.newer.now c.args.matching.block t (size _ _ _ c.args.matching.ready) _ _ refl refl in (
      rw w long.0,
      rw b long.1,
      k.small,
      rw k.size c.args.matching.ready.placed.paired.allowed,
      rw p.0 (around _ _ _ c.args.matching.ready),
      p.1 ∙ rw (w, b) (sym (key-in-copy _ _ _ t (size _ _ _ c.args.matching.ready) _ _ refl refl _ k 16 16 (middle _ _ _ c.args.matching.ready))),
      p.2,
    )

pub returns : goal.returns
returns c =
    let p = c.requires in
    let t = ready_standing _ _ _ c.args.matching.ready in
    let k = kernel_is c.kernel.ensures c.args.matching.ready.placed.paired.allowed in
    let e = rw (c.copy_window.ensures, c.copy_block.ensures, p.0) at c.rows_least.ensures in
    least_same _ _ _ _ (key-in-copy _ _ _ t (size _ _ _ c.args.matching.ready) _ _ refl refl _ k) e
