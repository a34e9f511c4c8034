-- 02, request 5: "For the direct call, a ceiling at the largest distortion gives the old distortion." By either measure: that is 255 × N² or 65,025 × N².
--   old_answer       the answer with the distortion and all N rows
--   measure_whole   no ceiling from the distortion on changes it
use Prim.Native.Nat.{ℕ, ◌*◌, ◌≤◌}
use mathlib.Core.Path.{◌≡◌, ap}
use native.Mathlib.Nat.{le_trans}
use borrow.Author.Tests.{eq-eqb}
use lib.ListN.{length}
use Rattle.order.specs.declared.Vector.{Vector}
use Rattle.frame.specs.Pictures.{Pair}
use Rattle.distortion.specs.Blocks.{distortion, Bytes, distortion_most, measure_in, newer_block, older_block}
use Rattle.measuring.specs.declared.Measured.{Measured}
use Rattle.measuring.specs.Measured.{measure_refusal, measure_at, answer_of, measure_vector}
use Rattle.measuring.proofs.Passing.{measurement_within}

abbrev pub old_answer : Pair → ℕ → ℕ → Vector → Measured
old_answer p y x v = record { refusal = 0; distortion = distortion p y x v; over = 0; rows = p.setting.n }

module _ (p : Pair) (y x : ℕ) (v : Vector) (ceiling : ℕ) (accepted : measure_refusal (length p.older) (length p.newer) p.setting y x v ≡ 0) where
  pub measure_whole : distortion p y x v ≤ ceiling → measure_vector p y x v ceiling ≡ old_answer p y x v
  unfolding measure_vector measure_at distortion answer_of
  measure_whole h =
      rw (eq-eqb (measure_refusal (length p.older) (length p.newer) p.setting y x v) 0 accepted)
      (ap answer_of (measurement_within (measure_in p) ceiling p.setting.n (newer_block p y x) (older_block p y x v) h))

  pub measure_largest : Bytes p.older → Bytes p.newer → p.setting.n * (p.setting.n * (measure_in p).most) ≤ ceiling
      → measure_vector p y x v ceiling ≡ old_answer p y x v
  measure_largest older newer h = measure_whole (le_trans (distortion_most p y x v older newer) h)
