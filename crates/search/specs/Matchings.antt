-- What a block matching is, in the terms of the definitions: the pair of its frames, and the target that a search of its block has.
use Rattle.frame.specs.Pictures.{Pair, pair_of}
use Rattle.search.specs.Target.{Target, target_of}
use Rattle.search.specs.declared.matching.Matching.{Matching}

abbrev pub pair_in : Matching → Pair
pair_in m = pair_of m.older.now m.newer.now m.block.setting

abbrev pub target_in : Matching → Target
target_in m = target_of m.older.now m.newer.now m.block
