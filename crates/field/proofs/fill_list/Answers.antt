-- `fill_list`: one index over all grid blocks; each turn searches one, stores it, votes for it if it is a voter, and adds it.
use Prim.Native.Nat.{◌+◌, ◌*◌, ◌≤◌, ◌<◌}
use mathlib.Core.Path.{◌≡◌, ap, ◌∙◌}
use native.Mathlib.Omega.{arith}
use lib.ListN.{length}
use Rattle.signed.proofs.Machine.{through}
use Rattle.frame.specs.Grid.{blocks, blocks_few}
use Rattle.frame.specs.Pictures.{pair_of, Fitting}
use Rattle.refusals.specs.Refusals.{setting_of, requested}
use Rattle.voter.specs.Voter.{voting}
use Rattle.reading.proofs.Tally.{tally_room}
use Rattle.field.proofs.Turns.{filled_first, filled_few, filled_more}
use Rattle.field.proofs.fill_list.Goals as goal
use Rattle.field.proofs.fill_list.Goals.{After-is_voter_at-voting, After-search_at-f, Start}

fitting : (s : Start) → Fitting (setting_of s.args.q)
fitting s = (requested _ _ _ s.requires.fine).paired.fitting

pub block_count-n-requires : goal.block_count-n-requires
block_count-n-requires c = rw c.setting_of-s.ensures (fitting (goal.at.block_count-n-requires c).Start)

pub loop-k-init : goal.loop-k-init
loop-k-init c =
    (c.block_count-n.ensures ∙ ap blocks c.setting_of-s.ensures, filled_first _ _ _ _ c.requires.room.1)

-- a turn stores inside the list, and there are not too many
room : (c : After-search_at-f) → let k = c.loop-k.k in
    (3 * k + 3 ≤ length c.args.list.now) × (k < 1048576)
room c =
    let n = c.loop-k.invariant.0 in
    (omega (arith, n, c.requires.room.0), omega (arith, n, blocks_few _ ((requested _ _ _ c.requires.fine).paired.fitting)))

-- whether block k votes
votes : (c : After-is_voter_at-voting) → let a = c.args in
    c.is_voter_at-voting.result ≡ voting (pair_of a.older.now a.newer.now (setting_of a.q)) c.loop-k.k
votes c = rw c.setting_of-s.ensures at c.is_voter_at-voting.ensures

pub is_voter_at-voting-requires : goal.is_voter_at-voting-requires
is_voter_at-voting-requires c =
    let q = (requested _ _ _ c.requires.fine).paired in
    rw c.setting_of-s.ensures
    (record { fitting = q.fitting; allowed = q.allowed; whole = q.newer_whole }, omega (arith, c.loop-k.invariant.0))

pub vote-requires : goal.vote-requires
vote-requires c =
    let i = c.loop-k.invariant.1 in
    let w = c.search_at-f.ensures.1.within in
    rw (through c.search_at-f.result.dy w.down, through c.search_at-f.result.dx w.across)
    (w, i.tally.long, tally_room _ _ _ _ i.tally _ w (omega (arith, room (goal.at.vote-requires c).After-search_at-f)))

pub join-total-requires : goal.join-total-requires
join-total-requires c =
    (filled_few _ _ _ _ _ _ _ c.loop-k.invariant.1 (omega (arith, room (goal.at.join-total-requires c).After-search_at-f)), c.search_at-f.ensures.1)

pub loop-k-preserved : goal.loop-k-preserved
loop-k-preserved c =
    let l = c.loop-k.invariant in
    let w = c.search_at-f.ensures.1.within in (
      l.0,
      rw (
        c.join-total.ensures,
        c.put_entry.ensures.holds,
        c.vote.ensures,
        through c.search_at-f.result.dy w.down,
        through c.search_at-f.result.dx w.across,
      )
          (filled_more _ _ _ _ _ _ _ l.1 _ _ c.search_at-f.ensures.0 (votes (goal.at.loop-k-preserved c).After-is_voter_at-voting) c.search_at-f.ensures.1 (room (goal.at.loop-k-preserved c).After-search_at-f).0),
    )
