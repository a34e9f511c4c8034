-- `with_row`: four rows of 16 pels are the block's eight rows of 8, whichever copy is read.
use Prim.Native.Nat.{◌%◌}
use native.Mathlib.Omega.{arith}
use Rattle.reach.proofs.Keys.{code_small}
use Rattle.full.proofs.Strips.{strip_key}
use Rattle.full.proofs.with_row.Goals as goal

pub lesser_key-requires : goal.lesser_key-requires
lesser_key-requires c =
    rw c.requires.5 (code_small c.args.i c.args.j c.requires.4 c.requires.3)

pub returns : goal.returns
returns c =
    let a = c.args in
    strip_key a.strip.now a.block.now c.requires.2 a.j a.i a.least (a.j % 2) _ _ _ (omega arith) c.four_rows-d.ensures.0 c.requires.5
    c.lesser_key.ensures
