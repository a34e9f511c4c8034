-- `place_ok`: down and across.
use Rattle.base.specs.Tests.{told}
use Rattle.refusals.proofs.place_ok.Goals as goal

pub returns-then-not-lies_in : goal.returns-then-not-lies_in
returns-then-not-lies_in c = rw (told c.lies_in.ensures c.if-not-lies_in.true)

pub returns : goal.returns
returns c = rw (told c.lies_in.ensures c.if-not-lies_in.false) c.lies_in-2.ensures
