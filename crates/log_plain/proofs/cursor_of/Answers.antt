-- `cursor_of`: the match is the definition's chain of tests.
use borrow.Author.Rules.{rules}
use borrow.Author.Tests.{ne_eqb}
use Rattle.log_plain.specs.Plain.{phase_of}
use Rattle.log_plain.proofs.cursor_of.Goals as goal

pub returns-in-0 : goal.returns-in-0
unfolding phase_of
returns-in-0 c = simp c.in-0.is

pub returns-in-1 : goal.returns-in-1
unfolding phase_of
returns-in-1 c = simp c.in-1.is

pub returns-in-2 : goal.returns-in-2
unfolding phase_of
returns-in-2 c = simp c.in-2.is

pub returns-in_default : goal.returns-in_default
unfolding phase_of
returns-in_default c =
    let phase = c.args.p.phase in
    simp (ne_eqb phase 0 (search rules), ne_eqb phase 1 (search rules), ne_eqb phase 2 (search rules))
