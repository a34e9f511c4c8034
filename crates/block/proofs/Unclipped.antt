-- 01: "Unclipped, four-step counts are 17, 20, 22, 23, 25 or 27", of the single-block answer: where the block stands at least 7 pels from every
-- border, each vector of window 7 is a candidate.
use Prim.Native.Nat.{ℕ, ◌+◌, ◌-◌, ◌≤◌}
use mathlib.Core.Path.{◌≡◌, ◌∙◌}
use mathlib.Core.List.{List}
use native.Mathlib.Omega.{arith}
use lib.Dec.{T, eqb→eq}
use Rattle.signed.specs.Int.{up, dn, parts}
use Rattle.order.specs.declared.Vector.{Vector}
use Rattle.order.specs.Vectors.{Within}
use Rattle.frame.specs.declared.Setting.{Setting}
use Rattle.refusals.specs.declared.Request.{Request}
use Rattle.frame.specs.Pictures.{pair_of}
use Rattle.frame.specs.Candidates.{candidate, candidate_at}
use Rattle.refusals.specs.Refusals.{window_ok, setting_of}
use Rattle.search.specs.Target.{target}
use Rattle.search.specs.SearchResult.{probes}
use Rattle.probe.specs.BestSoFar.{result_of}
use Rattle.four_step.proofs.Unclipped.{Unclipped, four_step_unclipped}
use Rattle.block.specs.Block.{search_block, searchable, block_unrefused, block_accepted, searched_four_step}

-- N pels from place y on stand at least 7 pels from both ends of a side
pub record Clear (y n side : ℕ) : Type 0 where
  pub before : 7 ≤ y
  pub behind : y + n + 7 ≤ side

all_candidates : (s : Setting) (y x : ℕ) (v : Vector) → Clear y s.n s.height → Clear x s.n s.width → Within 7 v → T (candidate s 7 y x v)
all_candidates s y x v down across near =
    candidate_at s 7 y x v (y + up v.dy - dn v.dy) (x + up v.dx - dn v.dx) near
    (omega (arith, parts v.dy)) (omega (arith, parts v.dy)) (omega (arith, parts v.dx)) (omega (arith, parts v.dx))

pub block_unclipped : (older newer : List ℕ) (q : Request) (y x : ℕ) → q.search ≡ 3 → (search_block older newer q y x).refusal ≡ 0
    → Clear y q.n q.height → Clear x q.n q.width
    → Unclipped (probes (search_block older newer q y x))
unfolding window_ok result_of
block_unclipped older newer q y x three accepted down across =
    let zero = block_unrefused older newer q y x accepted in
    let seven : q.w ≡ 7 = eqb→eq q.w 7 (rw three at (searchable _ _ q y x zero).requested.window) in
    let p = pair_of older newer (setting_of q) in
    rw (block_accepted older newer q y x zero ∙ searched_four_step p q y x three, seven)
    (four_step_unclipped (target p 7 y x) (λ v near. all_candidates (setting_of q) y x v down across near))
