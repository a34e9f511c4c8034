-- `block_ok`: the candidate's test, then the distortion's.
use mathlib.Core.Path.{◌≡◌}
use Rattle.base.specs.Tests.{told}
use Rattle.log_head.specs.Heads.{entry_ok, candidate_ok, headed, setting_in}
use mir.Facts.{to_z-of_z}
use Rattle.log_head.proofs.block_ok.Goals as goal
use Rattle.log_head.proofs.block_ok.Goals.{After-candidate_ok}

-- what `candidate_ok` answers
answered : (c : After-candidate_ok) →
    let a = c.args in
    c.candidate_ok.result ≡ candidate_ok (setting_in a.h) a.h.w a.k a.dy a.dx
answered c =
    rw (← c.setting_in.ensures) (rw (to_z-of_z c.ranges.dy, to_z-of_z c.ranges.dx) at c.candidate_ok.ensures)

pub candidate_ok-requires : goal.candidate_ok-requires
candidate_ok-requires c = rw c.setting_in.ensures ((headed c.args.h c.requires.0).fitting, c.requires.1)

pub returns-then-not-candidate_ok : goal.returns-then-not-candidate_ok
unfolding entry_ok
returns-then-not-candidate_ok c = rw (told (answered (goal.at.returns-then-not-candidate_ok c).After-candidate_ok) c.if-not-candidate_ok.true)

pub returns : goal.returns
unfolding entry_ok
returns c =
    rw (told (answered (goal.at.returns c).After-candidate_ok) c.if-not-candidate_ok.false, c.largest_in.ensures)
