-- What a search may ask of a block at row y, column x, for window w: which vectors are candidates, and their distortions.
--   Ready              the frames have the sizes that the block names, it stands wholly inside the newer one, and its window is at most 16
--   Past               a row or a column of a candidate's older block, at or behind some other
--   Target             the block as a search sees it: `target`
--   measure_candidate   the distortion of a vector under a ceiling, where it is a candidate; of_candidate: where it is one
use Rattle.std.specs.Prelude.{ℕ, ◌+◌, ◌≤◌, ◌<◌, List, Bool, T, ℤ, pos, nat_abs, ◌+ℤ◌, length, Option, Some, None}
use Rattle.std.proofs.Math.Path.{◌≡◌, refl}
use Rattle.std.proofs.Math.Bool.{true, false, cond}
use Rattle.std.proofs.Common.{add-zero, arith}
use borrow.Author.Tests.{leb-false}
use Rattle.std.proofs.Math.Dec.{leb}
use Rattle.signed.specs.Int.{up, dn}
use Rattle.order.specs.declared.Vector.{Vector}
use Rattle.order.specs.Vectors.{vec}
use Rattle.frame.specs.Pictures.{Pair, pair_of}
use Rattle.frame.specs.Candidates.{candidate, candidate_older}
use Rattle.refusals.specs.Refusals.{Placed}
use Rattle.distortion.specs.Blocks.{block_at, newer_block, measure_in, distortion_by, capped, distortion}
use Rattle.frame.specs.declared.SearchBlock.{SearchBlock}
use Rattle.search.specs.declared.MeasuredCandidate.{MeasuredCandidate}
use Rattle.search.specs.declared.MeasuredCandidate.TheVariants.{Distortion, OverCeiling, NotCandidate}

pub record Ready (older newer : List ℕ) (b : SearchBlock) : Type 0 where
  pub placed : Placed (length older) (length newer) b.setting b.y b.x
  pub window : b.w ≤ 16

-- at + d lies at or behind `from`
pub record Past (d : ℤ) (at from : ℕ) : Type 0 where
  pub window : nat_abs d ≤ 16
  pub is : up (pos at +ℤ d) + dn d ≡ at + up d
  pub behind : from ≤ up (pos at +ℤ d)
  pub small : up (pos at +ℤ d) ≤ 1024

pub record Target : Type 0 where
  pub candidate : Vector → Bool
  pub cost : Vector → ℕ

abbrev pub target : Pair → ℕ → ℕ → ℕ → Target
target p w y x = record { candidate = candidate p.setting w y x; cost = distortion p y x }

-- the target that code searches: two lent frames and a block
abbrev pub target_of : List ℕ → List ℕ → SearchBlock → Target
target_of older newer b = target (pair_of older newer b.setting) b.w b.y b.x

unfoldable pub of_candidate : Option ℕ → MeasuredCandidate
of_candidate (Some d) = Distortion d
of_candidate None = OverCeiling

unfoldable pub measure_candidate : Target → ℕ → Vector → MeasuredCandidate
measure_candidate t ceiling v = cond (t.candidate v) (of_candidate (capped ceiling (t.cost v))) NotCandidate

-- what an answer says
module _ (t : Target) (ceiling : ℕ) (v : Vector) where
  pub measure_candidate_none : measure_candidate t ceiling v ≡ NotCandidate → t.candidate v ≡ false
  unfolding measure_candidate of_candidate capped
  measure_candidate_none = go (t.candidate v) (leb (t.cost v) ceiling)
    where
      go : (c l : Bool) → cond c (of_candidate (cond l (Some (t.cost v)) None)) NotCandidate ≡ NotCandidate → c ≡ false
      go true true e = let z : ◌≡◌ {A = ℕ} 0 1 = cc in absurd (omega arith)
      go true false e = let z : ◌≡◌ {A = ℕ} 0 1 = cc in absurd (omega arith)
      go false l e = refl

  pub measure_candidate_some : (d : ℕ) → measure_candidate t ceiling v ≡ Distortion d → (t.candidate v ≡ true) × (d ≡ t.cost v)
  unfolding measure_candidate of_candidate capped
  measure_candidate_some d = go (t.candidate v) (leb (t.cost v) ceiling)
    where
      go : (c l : Bool) → cond c (of_candidate (cond l (Some (t.cost v)) None)) NotCandidate ≡ Distortion d → (c ≡ true) × (d ≡ t.cost v)
      go true true e = (refl, (let q : d ≡ t.cost v = cc in q))
      go true false e = let z : ◌≡◌ {A = ℕ} 0 1 = cc in absurd (omega arith)
      go false l e = let z : ◌≡◌ {A = ℕ} 0 1 = cc in absurd (omega arith)

  pub measure_candidate_over : measure_candidate t ceiling v ≡ OverCeiling → (t.candidate v ≡ true) × (ceiling < t.cost v)
  unfolding measure_candidate of_candidate capped
  measure_candidate_over = go (t.candidate v) (leb (t.cost v) ceiling) refl
    where
      go : (c l : Bool) → leb (t.cost v) ceiling ≡ l → cond c (of_candidate (cond l (Some (t.cost v)) None)) NotCandidate ≡ OverCeiling
          → (c ≡ true) × (ceiling < t.cost v)
      go true true q e = let z : ◌≡◌ {A = ℕ} 0 1 = cc in absurd (omega arith)
      go true false q e = (refl, leb-false (t.cost v) ceiling q)
      go false l q e = let z : ◌≡◌ {A = ℕ} 0 1 = cc in absurd (omega arith)

-- (0,0) compares the block with the older block at the same place
pub still_cost : (p : Pair) (y x : ℕ)
    → distortion p y x (vec (pos 0) (pos 0)) ≡ distortion_by (measure_in p) p.setting.n (newer_block p y x) (block_at p.older p.setting.width y x)
unfolding distortion
still_cost p y x = rw (add-zero y, add-zero x)

-- where the older block of a candidate stands
pub candidate_past : (older newer : List ℕ) (b : SearchBlock) (v : Vector) → Ready older newer b → T (candidate b.setting b.w b.y b.x v)
    → Past v.dy b.y 0 × Past v.dx b.x 0
candidate_past older newer b v r t =
    let o = candidate_older b.setting b.w b.y b.x v t in
    let f = r.placed.paired.fitting in (
      record { window = omega (arith, o.window.down, r.window); is = o.row; behind = omega arith; small = omega (arith, o.down, f.high) },
      record { window = omega (arith, o.window.across, r.window); is = o.column; behind = omega arith; small = omega (arith, o.across, f.wide) },
    )
