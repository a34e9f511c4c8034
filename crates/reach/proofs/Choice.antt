-- The least key among the vectors in reach is that of the exhaustive choice: least by what is compared first, and of equals the first in preference order.
use Prim.Native.Nat.{ℕ, ◌+◌, ◌*◌, ◌≤◌, ◌<◌}
use mathlib.Core.Path.{◌≡◌, sym, ap, ap₂, subst, ◌∙◌}
use mathlib.Core.Bool.{Bool, true}
use native.Mathlib.Nat.{le_trans}
use native.Mathlib.Omega.{arith}
use native.Mathlib.Decide.{dec_lt}
use lib.Dec.{T}
use Rattle.base.specs.Tests.{T_true, true_T}
use Rattle.base.specs.Least.{least_of, mem_length}
use Rattle.base.specs.Picks.{BestBelow, pick_mem, least_of_pick}
use Rattle.order.specs.declared.Vector.{Vector}
use Rattle.order.specs.Vectors.{Within, vector_count}
use Rattle.order.specs.Preference.{preferred}
use Rattle.order.proofs.Order.{stands, earlier}
use Rattle.frame.specs.declared.SearchBlock.{SearchBlock}
use Rattle.frame.specs.Candidates.{candidate, candidate_older}
use Rattle.search.specs.Exhaustive.{places, grid_vector}
use Rattle.reach.specs.Reach.{Standing, reach, InReach}
use Rattle.reach.specs.Keys.{order_code, key_of}
use Rattle.reach.proofs.Candidates.{reach_small, reach_yes, reach_all}
use Rattle.reach.proofs.Keys.{code_small, code_same, code_precedes}

-- of two keys the one that is not greater
key_order : (d e x y : ℕ) → x < 262144 → y < 262144 → d * 262144 + x ≤ e * 262144 + y → e ≤ d → (d ≡ e) × (x ≤ y)
key_order d e x y hx hy h l = (omega arith, omega arith)

pub least_key : (b : SearchBlock) → Standing b → (cost : Vector → ℕ) (i j : ℕ) → InReach (reach b) i j
    → ((k l : ℕ) → InReach (reach b) k l → key_of (cost (grid_vector i j)) i j ≤ key_of (cost (grid_vector k l)) k l)
    → grid_vector i j ≡ preferred (least_of (λ k. cost (preferred k)) (places b.setting b.w b.y b.x))
unfolding key_of
least_key b s cost i j h least = go (dec_lt (order_code i j) (order_code k l))
  where
    passes : ℕ → Bool
    passes m = candidate b.setting b.w b.y b.x (preferred m)

    costs : ℕ → ℕ
    costs m = cost (preferred m)

    near : Within b.w (grid_vector i j)
    near = (candidate_older b.setting b.w b.y b.x (grid_vector i j) (reach_yes b s i j h)).window

    -- where the vector stands in the table
    here : (q : ℕ) × (q < vector_count) × (preferred q ≡ grid_vector i j)
    here = stands (grid_vector i j) (record { down = le_trans near.down s.window; across = le_trans near.across s.window })

    passes_here : passes here.0 ≡ true
    passes_here =
        T_true (passes here.0)
        (subst (λ v. T (candidate b.setting b.w b.y b.x v)) (sym here.2) (reach_yes b s i j h))

    -- the exhaustive choice, and where it stands in reach
    best : ℕ
    best = least_of costs (places b.setting b.w b.y b.x)

    is_best : BestBelow costs passes vector_count best
    is_best = least_of_pick costs passes vector_count (mem_length (pick_mem passes vector_count here.1 passes_here))

    there : (k : ℕ) × (l : ℕ) × InReach (reach b) k l × (preferred best ≡ grid_vector k l)
    there = reach_all b s (preferred best) (true_T (passes best) is_best.passes)

    k : ℕ
    k = there.0

    l : ℕ
    l = there.1

    small : (i < 33) × (j < 33)
    small = reach_small b s i j h

    small_there : (k < 33) × (l < 33)
    small_there = reach_small b s k l there.2

    -- neither is less, so the two are equal but for the order
    order : (costs here.0 ≡ costs best) × (order_code i j ≤ order_code k l)
    order =
        let e : cost (preferred here.0) ≡ cost (grid_vector i j) = ap cost here.2 in
        let f : cost (preferred best) ≡ cost (grid_vector k l) = ap cost there.3 in
        key_order (costs here.0) (costs best) (order_code i j) (order_code k l)
        (code_small i j small.0 small.1) (code_small k l small_there.0 small_there.1)
        (rw (e, f) (least k l there.2))
        (is_best.least here.0 here.1 passes_here)

    go : Dec (order_code i j < order_code k l) → grid_vector i j ≡ preferred best
    go (yes p) =
        let before = code_precedes i j small.0 small.1 k l small_there.0 small_there.1 p in
        let first = earlier here.0 best here.1 is_best.below (rw (here.2, there.3) before) in
        absurd (omega (arith, is_best.earlier here.0 first passes_here, order.0))
    go (no p) =
        let e = code_same i j small.0 small.1 k l small_there.0 small_there.1 (omega (arith, order.1)) in
        ap₂ grid_vector e.0 e.1 ∙ sym there.3
