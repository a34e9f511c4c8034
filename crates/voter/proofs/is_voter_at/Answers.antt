-- `is_voter_at`: a grid block stands wholly inside the frame.
use Rattle.frame.specs.Grid.{block_down, block_across}
use Rattle.voter.proofs.is_voter_at.Goals as goal

pub is_voter-requires : goal.is_voter-requires
is_voter-requires c =
    let f = c.requires.0 in
    rw (c.block_row-y.ensures, c.block_column-x.ensures)
    (record { framed = f; down = block_down _ f.fitting _ c.requires.1; across = block_across _ f.fitting _ c.requires.1 })

pub returns : goal.returns
returns c =
    rw (c.block_row-y.ensures, c.block_column-x.ensures) at c.is_voter.ensures
