-- `write_log`: the verdict, then 19; else the log is put over the buffer's front.
use mathlib.Core.Path.{refl, ap, sym, ◌∙◌}
use borrow.Author.Tests.{lt-ltb, le-ltb, ne_eqb}
use Rattle.refusals.specs.Numbers.{number_some}
use Rattle.log_list.specs.Listed.{AllPass}
use Rattle.log_list.proofs.Sound.{verdict_yes}
use Rattle.log_writing.specs.Writing.{write_log}
use Rattle.log_writing.proofs.Bytes.{log_put}
use Rattle.log_writing.proofs.write_log.Goals as goal
use Rattle.log_writing.proofs.write_log.Goals.{In_default}

-- past the verdict every block passes
past : (c : In_default) → let a = c.args in AllPass a.head a.list.now
past c = verdict_yes _ _ (ap (λ x. x.refusal) (sym c.in_default.ensures))

pub returns-in-Err : goal.returns-in-Err
unfolding write_log
returns-in-Err c =
    rw (c.refused_write.ensures, ← c.in-Err.ensures, ne_eqb _ 0 (number_some c.in-Err.fault.refusal)) refl

pub log_size-requires : goal.log_size-requires
log_size-requires c = past c

pub returns-then-buffer-log_size : goal.returns-then-buffer-log_size
unfolding write_log
returns-then-buffer-log_size c =
    rw (
      ← c.in_default.ensures,
      ← c.log_size.ensures,
      lt-ltb _ _ c.if-buffer-log_size.true,
      c.refused_write-then-buffer-log_size.ensures,
    ) refl

pub put_log-requires : goal.put_log-requires
put_log-requires c = past (goal.at.put_log-requires c).In_default

pub returns : goal.returns
unfolding write_log
returns c =
    rw (← c.in_default.ensures, ← c.log_size.ensures, le-ltb _ _ c.if-buffer-log_size.false)
    (log_put c.put_log.ensures c.log_size.ensures c.if-buffer-log_size.false)
