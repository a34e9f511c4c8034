-- `print_log`: the refusal alone, or the lines of the walk, put from the start on.
use Rattle.log_text.proofs.Fits.{printed_long, printed_walk, all_put}
use Rattle.log_text.proofs.print_log.Goals as goal

pub returns-then-log-gt-LONGEST_LOG : goal.returns-then-log-gt-LONGEST_LOG
returns-then-log-gt-LONGEST_LOG c = all_put _ (printed_long _ c.if-log-gt-LONGEST_LOG.true) c.put_refused.ensures.0

pub returns : goal.returns
returns c = all_put _ (printed_walk _ c.if-log-gt-LONGEST_LOG.false) c.put_walk.ensures
