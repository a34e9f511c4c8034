-- `is_voter`: the frame is cut where the block begins; each N is an allowed one.
use mathlib.Core.Path.{◌≡◌}
use native.Mathlib.Omega.{arith}
use Rattle.voter.proofs.Cut.{standing_inside, standing_votes, last_size}
use Rattle.voter.proofs.is_voter.Goals as goal
use Rattle.voter.proofs.is_voter.Goals.{In_default}

left : (e : In_default) → e.args.s.n ≡ 32
left e =
    last_size e.args.newer.now _ _ _ e.requires (λ h. omega arith) (λ h. omega arith) (λ h. omega arith)

pub returns-in-4 : goal.returns-in-4
returns-in-4 c =
    standing_votes c.args.newer.now _ _ _ c.requires 4 _ c.in-4.is c.differs.ensures

pub returns-in-8 : goal.returns-in-8
returns-in-8 c =
    standing_votes c.args.newer.now _ _ _ c.requires 8 _ c.in-8.is c.differs-in-8.ensures

pub returns-in-16 : goal.returns-in-16
returns-in-16 c =
    standing_votes c.args.newer.now _ _ _ c.requires 16 _ c.in-16.is c.differs-in-16.ensures

pub differs-requires-in_default : goal.differs-requires-in_default
differs-requires-in_default c =
    standing_inside c.args.newer.now _ _ _ c.requires 32 (left c)

pub returns-in_default : goal.returns-in_default
returns-in_default c =
    standing_votes c.args.newer.now _ _ _ c.requires 32 _ (left (goal.at.returns-in_default c).In_default) c.differs-in_default.ensures
