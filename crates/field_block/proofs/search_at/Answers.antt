-- `search_at`: grid block k lies inside, so it is ready for search 2, and its single-block call is not refused.
use Prim.Native.Nat.{◌+◌, ◌≤◌}
use mathlib.Core.Path.{◌≡◌, sym, ◌∙◌}
use native.Mathlib.Omega.{arith}
use lib.ListN.{length}
use Rattle.frame.specs.Grid.{block_row, block_column, block_down, block_across}
use Rattle.refusals.specs.Refusals.{setting_of, Requested, requested, window_small}
use Rattle.block.specs.Block.{search_fine, block_accepted, searched_pruned}
use Rattle.distortion.specs.Blocks.{Bytes}
use Rattle.field_block.proofs.Sound.{block_is}
use Rattle.field_block.proofs.search_at.Goals as goal
use Rattle.field_block.proofs.search_at.Goals.{After-block_column-x, After-shared_slice_known-2-1, Start}

request : (s : Start) → let a = s.args in Requested (length a.older.now) (length a.newer.now) a.q
request s = requested _ _ _ s.requires.0

bytes : (c : After-shared_slice_known-2-1) → let a = c.args in Bytes a.older.now × Bytes a.newer.now
bytes c = (
  λ i. let h = c.shared_slice_known-1.given i in omega (arith, h),
  λ i. let h = c.shared_slice_known-2-1.given i in omega (arith, h),
)

pub block_row-y-requires : goal.block_row-y-requires
block_row-y-requires c = rw c.setting_of-s.ensures ((request (goal.at.block_row-y-requires c).Start).paired.fitting, c.requires.1)

pub block_column-x-requires : goal.block_column-x-requires
block_column-x-requires c =
    rw c.setting_of-s.ensures ((request (goal.at.block_column-x-requires c).Start).paired.fitting, c.requires.1)

row_is : (b : After-block_column-x) →
    let a = b.args in
    b.block_row-y.result ≡ block_row (setting_of a.q) a.k
row_is b = rw b.setting_of-s.ensures at b.block_row-y.ensures

column-is : (b : After-block_column-x) →
    let a = b.args in
    b.block_column-x.result ≡ block_column (setting_of a.q) a.k
column-is b = rw b.setting_of-s.ensures at b.block_column-x.ensures

-- block k lies inside
lies : (b : After-block_column-x) → let q = b.args.q in
    (b.block_row-y.result + q.n ≤ q.height) × (b.block_column-x.result + q.n ≤ q.width)
lies b =
    let f = (let request : let a = b.args in Requested (length a.older.now) (length a.newer.now) a.q = requested _ _ _ b.requires.0 in request).paired.fitting in
    rw (
      (let row_is : let a = b.args in
          b.block_row-y.result ≡ block_row (setting_of a.q) a.k = rw b.setting_of-s.ensures at b.block_row-y.ensures in row_is),
      (let column-is : let a = b.args in
          b.block_column-x.result ≡ block_column (setting_of a.q) a.k = rw b.setting_of-s.ensures at b.block_column-x.ensures in column-is),
    ) (block_down _ f _ b.requires.1, block_across _ f _ b.requires.1)

pub invariant_of-search-clause-ready : goal.invariant_of-search-clause-ready
invariant_of-search-clause-ready c =
    let a = request (goal.at.invariant_of-search-clause-ready c).Start in
    let l = lies (goal.at.invariant_of-search-clause-ready c).After-block_column-x in
    rw c.setting_of-s.ensures (record { placed = record { paired = a.paired; down = l.0; across = l.1 }; window = window_small _ _ a.window })

pub invariant_of-search-clause-bytes : goal.invariant_of-search-clause-bytes
invariant_of-search-clause-bytes c = (λ k. omega (arith, c.type_inv.older k), λ k. omega (arith, c.type_inv.newer k))

pub returns-then-q-eq2 : goal.returns-then-q-eq2
returns-then-q-eq2 c =
    let e = rw (c.setting_of-s.ensures, row_is (goal.at.returns-then-q-eq2 c).After-block_column-x, column-is (goal.at.returns-then-q-eq2 c).After-block_column-x) at c.search.ensures in
    block_is _ _ _ (bytes (goal.at.returns-then-q-eq2 c).After-shared_slice_known-2-1) (request (goal.at.returns-then-q-eq2 c).Start) _ c.requires.1 _ (e ∙ sym (searched_pruned _ _ _ _ c.if-q-eq2.true))

pub returns : goal.returns
returns c =
    let e = c.search_block.ensures ∙ block_accepted _ _ _ _ _ (search_fine _ _ _ _ _ c.requires.0 (lies (goal.at.returns c).After-block_column-x).0 (lies (goal.at.returns c).After-block_column-x).1) in
    block_is _ _ _ (bytes (goal.at.returns c).After-shared_slice_known-2-1) (request (goal.at.returns c).Start) _ c.requires.1 _ (rw (row_is (goal.at.returns c).After-block_column-x, column-is (goal.at.returns c).After-block_column-x) at e)
