-- `walk_from`: the step from the cursor that the plain numbers stand for.
use borrow.Author.Rules.{rules}
use Rattle.log_plain.specs.Plain.{walk_from}
use Rattle.log_plain.proofs.walk_from.Goals as goal

pub returns : goal.returns
unfolding walk_from
returns c = search rules
