-- `search_half`: what the search found is refined, unless it was refused.
use mathlib.Core.Path.{◌≡◌, sym, ap, ◌∙◌}
use Rattle.search.specs.declared.SearchResult.{SearchResult}
use Rattle.block.specs.Block.{search_block}
use Rattle.half_search.proofs.Answer.{half_accepted, half_refused, refining}
use Rattle.half_search.proofs.search_half.Goals as goal
use Rattle.half_search.proofs.search_half.Goals.{After-setting_of}

accepted : (c : After-setting_of) →
    let a = c.args in
    (search_block a.older.now a.newer.now a.q a.y a.x).refusal ≡ 0
accepted c = ap (λ (r : SearchResult). r.refusal) (sym c.search_block-found.ensures) ∙ c.if-found-ne0.false

pub returns-then-found-ne0 : goal.returns-then-found-ne0
returns-then-found-ne0 c =
    let e = c.search_block-found.ensures in
    rw e (sym (half_refused _ _ _ _ _ (λ h. c.if-found-ne0.true (ap (λ (r : SearchResult). r.refusal) e ∙ h))))

pub refine-requires : goal.refine-requires
refine-requires c =
    let e = c.search_block-found.ensures in
    rw (c.setting_of.ensures, e) (refining _ _ _ _ _ (accepted c))

pub returns : goal.returns
returns c =
    (rw (c.setting_of.ensures, c.search_block-found.ensures) at c.refine.ensures) ∙ sym (half_accepted _ _ _ _ _ (accepted (goal.at.returns c).After-setting_of))
