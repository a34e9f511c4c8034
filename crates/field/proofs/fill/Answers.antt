-- `fill`: the table of sums is made, and each block searched; then the reading is that of all votes.
use borrow.Author.Rules.{rules}
use mathlib.Core.Path.{◌∙◌}
use mir.Facts.{to_z-of_z}
use Rattle.frame.specs.Pictures.{pair_of}
use Rattle.refusals.specs.Refusals.{setting_of, requested}
use Rattle.reading.proofs.Tally.{tally_reading}
use Rattle.field.proofs.Turns.{answer_is}
use mir.Syntax.{w32}
use Rattle.field.proofs.fill.Goals as goal

pub fill_table-requires : goal.fill_table-requires
fill_table-requires c =
    let r = c.requires in
    let p = (requested _ _ _ r.fine).paired in
    record { wide = p.fitting.wide; high = p.fitting.high; whole = p.older_whole; room = r.table_room }

pub returns : goal.returns
returns c =
    let l = c.fill_list-total.ensures in
    let a = c.args in
    let r = c.reading_of-r.ensures ∙ tally_reading _ _ _ _ l.tally in
    rw (
      to_z-of_z {w = w32} {z = c.reading_of-r.result.dy} (search rules),
      to_z-of_z {w = w32} {z = c.reading_of-r.result.dx} (search rules),
      l.list,
      c.fill_table.ensures,
      answer_is (pair_of a.older.now a.newer.now (setting_of a.q)) a.q c.fill_list-total.result c.reading_of-r.result l.sums r,
    )
