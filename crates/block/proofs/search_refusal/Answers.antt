-- `search_refusal`: the request's chain, and after it the block's place.
use mathlib.Core.Path.{◌≡◌, sym}
use Rattle.base.specs.Tests.{told}
use Rattle.refusals.specs.Refusals.{unless, place_ok, setting_of, first_refusal_none}
use Rattle.refusals.specs.Numbers.{handed_first}
use Rattle.block.specs.Block.{search_refusal}
use Rattle.block.proofs.search_refusal.Goals as goal
use Rattle.block.proofs.search_refusal.Goals.{After-place_ok, In_ok-request_refusal}

-- past the request's chain
rest : (d : In_ok-request_refusal) → let a = d.args in search_refusal a.older a.newer a.q a.y a.x
    ≡ unless (place_ok (setting_of a.q) a.y a.x) 7 0
unfolding search_refusal
rest d = first_refusal_none _ _ (sym d.in_ok-request_refusal.ensures)

in_place : (d : After-place_ok) → let a = d.args in d.place_ok.result ≡ place_ok (setting_of a.q) a.y a.x
in_place d = rw d.setting_of.ensures at d.place_ok.ensures

pub returns-in_err-request_refusal : goal.returns-in_err-request_refusal
unfolding search_refusal
returns-in_err-request_refusal c = handed_first _ _ _ c.from_residual.ensures.1 c.in_err-request_refusal.ensures

pub returns-then-not-place_ok : goal.returns-then-not-place_ok
returns-then-not-place_ok c =
    rw (rest (goal.at.returns-then-not-place_ok c).In_ok-request_refusal, told (in_place (goal.at.returns-then-not-place_ok c).After-place_ok) c.if-not-place_ok.true)

pub returns : goal.returns
returns c =
    rw (rest (goal.at.returns c).In_ok-request_refusal, told (in_place (goal.at.returns c).After-place_ok) c.if-not-place_ok.false)
