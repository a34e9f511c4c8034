-- `search_block`: past the chain the block is ready for each search, and the requested search answers.
use mathlib.Core.Path.{◌≡◌, sym, ◌∙◌}
use native.Mathlib.Omega.{arith}
use lib.ListN.{length}
use Rattle.refusals.specs.Refusals.{window_ok, setting_of, window_small}
use Rattle.refusals.specs.Numbers.{number_some}
use Rattle.frame.specs.Pictures.{pair_of}
use Rattle.search.specs.Target.{Ready}
use Rattle.block.specs.Block.{search_refusal, search_block, search_by, searched_full, searched_pruned}
use Rattle.block.specs.Block.{searched_four_step, searched_cross, searchable, block_refused, block_accepted}
use Rattle.block.proofs.search_block.Goals as goal
use Rattle.block.proofs.search_block.Goals.{After-setting_of, In_default}

-- past the chain
zero_is : (e : In_default) →
    let a = e.args in
    search_refusal (length a.older.now) (length a.newer.now) a.q a.y a.x ≡ 0
zero_is e = sym e.in_default.ensures

ready : (c : After-setting_of) →
    let a = c.args in
    Ready a.older.now a.newer.now (record { setting = c.setting_of.result; w = a.q.w; y = a.y; x = a.x })
ready c =
    let s = searchable _ _ _ _ _ (let zero_is : let a = c.args in
    search_refusal (length a.older.now) (length a.newer.now) a.q a.y a.x ≡ 0 = sym c.in_default.ensures in zero_is) in
    record { placed = rw c.setting_of.ensures s.placed; window = window_small _ _ s.requested.window }

accepted : (c : After-setting_of) →
    let a = c.args in
    search_block a.older.now a.newer.now a.q a.y a.x
    ≡ search_by (pair_of a.older.now a.newer.now (setting_of a.q)) a.q a.y a.x
accepted c = block_accepted _ _ _ _ _ (let zero_is : let a = c.args in
    search_refusal (length a.older.now) (length a.newer.now) a.q a.y a.x ≡ 0 = sym c.in_default.ensures in zero_is)

pub returns-in-Err : goal.returns-in-Err
returns-in-Err c =
    let r = c.in-Err.ensures in
    c.refused_search.ensures ∙ rw r (sym (block_refused _ _ _ _ _ (λ e. number_some c.in-Err.refusal (r ∙ e))))

pub invariant_of-matching-clause-ready : goal.invariant_of-matching-clause-ready
invariant_of-matching-clause-ready c = ready (goal.at.invariant_of-matching-clause-ready c).After-setting_of

pub invariant_of-matching-then-q-eq4-clause-ready : goal.invariant_of-matching-then-q-eq4-clause-ready
invariant_of-matching-then-q-eq4-clause-ready c = ready (goal.at.invariant_of-matching-then-q-eq4-clause-ready c).After-setting_of

pub invariant_of-matching-then-q-eq2-clause-ready : goal.invariant_of-matching-then-q-eq2-clause-ready
invariant_of-matching-then-q-eq2-clause-ready c = ready (goal.at.invariant_of-matching-then-q-eq2-clause-ready c).After-setting_of

pub invariant_of-matching-2-clause-ready : goal.invariant_of-matching-2-clause-ready
invariant_of-matching-2-clause-ready c = ready (goal.at.invariant_of-matching-2-clause-ready c).After-setting_of

pub invariant_of-matching-clause-bytes : goal.invariant_of-matching-clause-bytes
invariant_of-matching-clause-bytes c = (λ k. omega (arith, c.type_inv.older k), λ k. omega (arith, c.type_inv.newer k))

pub invariant_of-matching-then-q-eq4-clause-bytes : goal.invariant_of-matching-then-q-eq4-clause-bytes
invariant_of-matching-then-q-eq4-clause-bytes c = (λ k. omega (arith, c.type_inv.older k), λ k. omega (arith, c.type_inv.newer k))

pub invariant_of-matching-then-q-eq2-clause-bytes : goal.invariant_of-matching-then-q-eq2-clause-bytes
invariant_of-matching-then-q-eq2-clause-bytes c = (λ k. omega (arith, c.type_inv.older k), λ k. omega (arith, c.type_inv.newer k))

pub invariant_of-matching-2-clause-bytes : goal.invariant_of-matching-2-clause-bytes
invariant_of-matching-2-clause-bytes c = (λ k. omega (arith, c.type_inv.older k), λ k. omega (arith, c.type_inv.newer k))

pub returns-then-q-eq3 : goal.returns-then-q-eq3
returns-then-q-eq3 c =
    (rw c.setting_of.ensures at c.search.ensures) ∙ sym (accepted (goal.at.returns-then-q-eq3 c).After-setting_of ∙ searched_four_step _ _ _ _ c.if-q-eq3.true)

pub search-requires-then-q-eq4 : goal.search-requires-then-q-eq4
unfolding window_ok
search-requires-then-q-eq4 c =
    (rw c.if-q-eq4.true at (searchable _ _ _ _ _ (zero_is (goal.at.search-requires-then-q-eq4 c).In_default)).requested.window)

pub returns-then-q-eq4 : goal.returns-then-q-eq4
returns-then-q-eq4 c =
    (rw c.setting_of.ensures at c.search-then-q-eq4.ensures) ∙ sym (accepted (goal.at.returns-then-q-eq4 c).After-setting_of ∙ searched_cross _ _ _ _ c.if-q-eq4.true)

pub returns-then-q-eq2 : goal.returns-then-q-eq2
returns-then-q-eq2 c =
    (rw c.setting_of.ensures at c.search-then-q-eq2.ensures) ∙ sym (accepted (goal.at.returns-then-q-eq2 c).After-setting_of ∙ searched_pruned _ _ _ _ c.if-q-eq2.true)

pub returns : goal.returns
returns c =
    let a = (searchable _ _ _ _ _ (zero_is (goal.at.returns c).In_default)).requested in
    let q = c.args.q in
    let one : q.search ≡ 1 = omega (
      arith,
      a.least,
      a.most,
      c.if-q-eq2.false,
      c.if-q-eq4.false,
      c.if-q-eq3.false,
    ) in
    (rw c.setting_of.ensures at c.search-2.ensures) ∙ sym (accepted (goal.at.returns c).After-setting_of ∙ searched_full _ _ _ _ one)
