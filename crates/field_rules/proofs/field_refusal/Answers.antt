-- `field_refusal`: the request's refusal, then the table's and the list's length. An accepted request has sides of at most 1,024, so no product wraps.
use Prim.Native.Nat.{ℕ, ◌+◌, ◌*◌, ◌≤◌}
use borrow.Author.Tests.{ne_eqb, eq-eqb, lt-leb, le-leb}
use lib.Dec.{eqb}
use mathlib.Core.Bool.{true, not}
use mathlib.Core.Path.{◌≡◌, sym, ap, ◌∙◌}
use native.Mathlib.Nat.{mul-le-mul}
use native.Mathlib.Omega.{arith}
use Rattle.field_rules.specs.Rules.{field_refusal, table_ok}
use Rattle.base.specs.Tests.{or_true}
use Rattle.frame.specs.Grid.{blocks, blocks_few}
use Rattle.frame.specs.Pictures.{Fitting}
use Rattle.refusals.specs.Refusals.{first_refusal_none, setting_of, request_refusal, requested}
use Rattle.refusals.specs.Numbers.{handed_first}
use Rattle.field_rules.proofs.field_refusal.Goals as goal
use Rattle.field_rules.proofs.field_refusal.Goals.{After-block_count, In_ok-request_refusal, Joined-q-eq2, then-q-eq2+else-table-q, else-q-eq2}

pub returns-in_err-request_refusal : goal.returns-in_err-request_refusal
unfolding field_refusal
returns-in_err-request_refusal c = handed_first _ _ _ c.from_residual.ensures.1 c.in_err-request_refusal.ensures

-- past the request's refusals
zero_is : (c : In_ok-request_refusal) → let a = c.args in request_refusal a.older a.newer a.q ≡ 0
zero_is c = sym c.in_ok-request_refusal.ensures

fine : (c : In_ok-request_refusal) → Fitting (setting_of c.args.q)
fine c = (requested _ _ _ (let zero_is : let a = c.args in request_refusal a.older a.newer a.q ≡ 0 = sym c.in_ok-request_refusal.ensures in zero_is)).paired.fitting

area : (h w : ℕ) → h ≤ 1024 → w ≤ 1024 → (h + 1) * (w + 1) ≤ 1050625
area h w a b = mul-le-mul {n₂ = 1025} {m₂ = 1025} (omega arith) (omega arith)

pub overflow_add-q : goal.overflow_add-q
overflow_add-q c = omega (arith, fine (goal.at.overflow_add-q c).In_ok-request_refusal)

pub overflow_add-q-then-q-eq2 : goal.overflow_add-q-then-q-eq2
overflow_add-q-then-q-eq2 c = omega (arith, fine (goal.at.overflow_add-q-then-q-eq2 c).In_ok-request_refusal)

pub overflow_mul-q : goal.overflow_mul-q
overflow_mul-q c =
    let q = c.args.q in
    omega (arith, area q.height q.width (fine (goal.at.overflow_mul-q c).In_ok-request_refusal).high (fine (goal.at.overflow_mul-q c).In_ok-request_refusal).wide)

pub returns-then-table-q : goal.returns-then-table-q
unfolding field_refusal
returns-then-table-q c =
    sym (first_refusal_none _ _ (zero_is (goal.at.returns-then-table-q c).In_ok-request_refusal) ∙ rw (eq-eqb _ 2 c.if-q-eq2.true, lt-leb _ _ c.if-table-q.true))

pub block_count-requires : goal.block_count-requires
block_count-requires c = rw c.setting_of.ensures (fine (goal.at.block_count-requires c).In_ok-request_refusal)

count-is : (c : After-block_count) → c.block_count.result ≡ blocks (setting_of c.args.q)
count-is c = c.block_count.ensures ∙ ap blocks c.setting_of.ensures

pub overflow_mul-block_count : goal.overflow_mul-block_count
overflow_mul-block_count c = omega (arith, count-is c, blocks_few _ (fine (goal.at.overflow_mul-block_count c).In_ok-request_refusal))

-- past the table's length
long : (c : Joined-q-eq2) → let a = c.args in table_ok a.q a.table ≡ true
long c =
    let a = c.args in
    elim c.if-q-eq2.branch [
      | then-q-eq2+else-table-q w ↦ rw (le-leb _ _ w.if-table-q.false) (or_true (not (eqb a.q.search 2)))
      | else-q-eq2 w ↦ rw (ne_eqb a.q.search 2 w.if-q-eq2.false)
    ]

pub returns-then-list-block_count : goal.returns-then-list-block_count
unfolding field_refusal
returns-then-list-block_count c =
    sym (first_refusal_none _ _ (zero_is (goal.at.returns-then-list-block_count c).In_ok-request_refusal) ∙ rw (long (goal.at.returns-then-list-block_count c).Joined-q-eq2, ← count-is (goal.at.returns-then-list-block_count c).After-block_count, lt-leb _ _ c.if-list-block_count.true))

pub returns : goal.returns
unfolding field_refusal
returns c =
    sym (first_refusal_none _ _ (zero_is (goal.at.returns c).In_ok-request_refusal) ∙ rw (long (goal.at.returns c).Joined-q-eq2, ← count-is (goal.at.returns c).After-block_count, le-leb _ _ c.if-list-block_count.false))
