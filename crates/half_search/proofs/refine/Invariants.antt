-- `refine`: the centre is the search's vector, and each turn of the loop tries one neighbour more.
use Rattle.frame.specs.Pictures.{pair_of}
use Rattle.search.specs.SearchResult.{vector_in}
use Rattle.half_search.specs.Half.{counts, costs}
use Rattle.half_search.proofs.Leading.{Leading}
use Rattle.half_search.proofs.refine.Given as goal

abbrev pub invariant-loop-k : goal.invariant-loop-k
invariant-loop-k l =
    let p = pair_of l.older l.newer l.s in
    Leading (costs p l.y l.x (vector_in l.found)) (counts p l.y l.x (vector_in l.found)) l.k l.best
