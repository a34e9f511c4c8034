-- `block_taken`: the operands, then the rules of 16.
use borrow.Author.Rules.{sfits_of}
use mir.Facts.{to_z-of_z}
use mir.Syntax.{w32}
use Rattle.log_cursor.proofs.block_taken.Goals as goal

pub returns : goal.returns
returns c =
    rw (
      c.block_passes-passes.ensures,
      to_z-of_z (sfits_of {w = w32} c.from_byte-dy.type_inv),
      to_z-of_z (sfits_of {w = w32} c.from_byte-dx.type_inv),
      c.from_byte-dy.ensures,
      c.from_byte-dx.ensures,
      c.distortion_in-d.ensures.0,
    )
    at c.taken.ensures
