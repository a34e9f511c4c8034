-- `state_refusal`: the three tests are those of the definition.
use borrow.Author.Tests.{le-leb, lt-leb}
use Rattle.base.specs.Tests.{told}
use Rattle.track_rules.proofs.state_refusal.Goals as goal

pub returns-then-not-homed : goal.returns-then-not-homed
returns-then-not-homed c = rw (c.if-not-homed.true)

pub returns-then-steps-ge1000000 : goal.returns-then-steps-ge1000000
returns-then-steps-ge1000000 c =
    let s = c.args in
    rw (c.if-not-homed.false, le-leb 1000000 s.steps c.if-steps-ge1000000.true)

pub returns-then-not-recent_ok : goal.returns-then-not-recent_ok
returns-then-not-recent_ok c =
    let s = c.args in
    rw (c.if-not-homed.false, lt-leb 1000000 s.steps c.if-steps-ge1000000.false, told c.recent_ok.ensures c.if-not-recent_ok.true)

pub returns : goal.returns
returns c =
    let s = c.args in
    rw (c.if-not-homed.false, lt-leb 1000000 s.steps c.if-steps-ge1000000.false, told c.recent_ok.ensures c.if-not-recent_ok.false)
