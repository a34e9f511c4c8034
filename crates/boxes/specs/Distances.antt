-- 01, "The four searches", search 2: the distances at m of the candidates of a block whose boxes stand in an array. At m = 32 there are no boxes: the
-- block is one square then, of four boxes of 16.
--   Resolution   m is a resolution of N: its boxes stand in the array, or it is 32 and so is N
--   distance_to   the distance at m of a vector for a block
--   Numbered     an array has the distances at m of all candidates, at the places where their first boxes stand
use Rattle.std.specs.Prelude.{ℕ, ◌+◌, ◌-◌, ◌*◌, ◌≡◌, ◌⊎◌, List, get_or}
use Rattle.measures.specs.Measures.{measure_of}
use Rattle.order.specs.declared.Vector.{Vector}
use Rattle.frame.specs.Pictures.{pair_of}
use Rattle.frame.specs.declared.SearchBlock.{SearchBlock}
use Rattle.distortion.specs.Blocks.{newer_block, older_block}
use Rattle.search.specs.Exhaustive.{grid_vector}
use Rattle.reach.specs.Reach.{reach, InReach}
use Rattle.pruned_rule.specs.Distance.{distance_by}
use Rattle.boxes.specs.Boxes.{Cut, span_of, Boxed}

abbrev pub Resolution : ℕ → ℕ → Type 0
Resolution n m = Cut n m ⊎ ((n ≡ 32) × (m ≡ 32))

abbrev pub distance_to : List ℕ → List ℕ → SearchBlock → ℕ → ℕ → Vector → ℕ
distance_to older newer b measure m v =
    let p = pair_of older newer b.setting in
    distance_by (measure_of measure) b.setting.n m (newer_block p b.y b.x) (older_block p b.y b.x v)

abbrev pub Numbered : ℕ → List ℕ → ℕ → ℕ → ℕ → List ℕ → Type 0
Numbered measure boxes n m span numbers =
    (older newer : List ℕ) (b : SearchBlock) → Boxed older newer b boxes → n ≡ b.setting.n → span ≡ span_of n (reach b)
    → (i j : ℕ) → InReach (reach b) i j
    → get_or numbers ((n + 32) * (i - (reach b).top) + (j - (reach b).left)) 0 ≡ distance_to older newer b measure m (grid_vector i j)
