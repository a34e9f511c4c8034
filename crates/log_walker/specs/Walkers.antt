-- 01, "Log": "A walker over a lent log hands out one command a call." A walker is the lent log and a cursor; what a call hands out, and where the walker then
-- stands, is `step_at` of log_cursor/specs/Step.antt, for a walker built by hand too.
--   next_command  what a call hands out
--   next_walker   the walker after it: the same lent log, at the next cursor
use Rattle.log_command.specs.declared.Command.{Command}
use Rattle.log_cursor.specs.Step.{step_at}
use Rattle.log_walker.specs.declared.Walker.{Walker}

abbrev pub next_command : Walker → Command
next_command w = (step_at w.log.now w.cursor).command

abbrev pub next_walker : Walker → Walker
next_walker w = record { log = w.log; cursor = (step_at w.log.now w.cursor).next }
