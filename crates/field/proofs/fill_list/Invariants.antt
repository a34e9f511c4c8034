-- `fill_list`: one index over all grid blocks; each turn searches one, stores it, votes for it if it is a voter, and adds it.
use mathlib.Core.Path.{◌≡◌}
use Rattle.frame.specs.Grid.{blocks}
use Rattle.frame.specs.Pictures.{pair_of}
use Rattle.refusals.specs.Refusals.{setting_of}
use Rattle.voter.specs.Voter.{voting}
use Rattle.field_block.specs.Blocks.{search_at}
use Rattle.field.specs.Filling.{BlocksFilled}
use Rattle.field.proofs.fill_list.Given as goal

abbrev pub invariant-loop-k : goal.invariant-loop-k
invariant-loop-k l =
    let p = pair_of l.older l.newer (setting_of l.q) in
    (l.n ≡ blocks (setting_of l.q)) × BlocksFilled (voting p) (search_at p l.q) l.k l.initial.list l.list l.votes l.total
