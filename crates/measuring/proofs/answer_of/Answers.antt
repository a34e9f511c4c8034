-- `answer_of`: the two cases.
use Rattle.measuring.specs.Measured.{answer_of}
use Rattle.measuring.proofs.answer_of.Goals as goal

pub returns-in-Within : goal.returns-in-Within
unfolding answer_of
returns-in-Within c = rw c.in-Within.is

pub returns-in-Over : goal.returns-in-Over
unfolding answer_of
returns-in-Over c = rw c.in-Over.is
