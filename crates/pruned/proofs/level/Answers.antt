-- `level`: of all, or of those listed.
use mathlib.Core.Path.{sym, ◌∙◌}
use Rattle.pruned.proofs.Steps.{size_small, side_small}
use Rattle.pruned.proofs.level.Goals as goal

pub by_all-requires : goal.by_all-requires
by_all-requires c = let s = c.requires.0 in (size_small s, side_small s)

pub returns-then-by_all : goal.returns-then-by_all
returns-then-by_all c = c.all_level.ensures

pub listed_level-requires : goal.listed_level-requires
listed_level-requires c =
    let p = c.requires in
    (p.0, p.1, sym c.by_all.ensures ∙ c.if-by_all.false)

pub returns : goal.returns
returns c = let e = c.listed_level.ensures in (e.0, e.1, c.requires.3)
