-- `list_within`: after i turns the keys of those within the limit in the first i rows stand in front.
use Rattle.base.specs.Lists.{concat_to}
use Rattle.pruned_sift.specs.Laid.{row_spots, within, Added}
use Rattle.pruned_sift.proofs.list_within.Given as goal

abbrev pub invariant-loop-i : goal.invariant-loop-i
invariant-loop-i l =
    Added (within l.numbers l.pitch l.r l.most (concat_to (row_spots l.r) l.i)) l.initial.keys 0 l.keys l.n
