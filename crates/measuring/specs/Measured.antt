-- 01, "Field, reading, track": "The measuring call takes a pair, N, such a place and one vector, and answers with the distortion." Such a place is any
-- pel row and column at which a block may stand. 02, request 5: it takes a ceiling too, and answers with the distortion or 'over', and with the rows.
--   measure_refusal   1 2 3 51 7 8: a pair, N, the measure, the block's place, and the vector. The ceiling is never refused
--   measure_at        what is measured: the newer block at (y, x) against the older block at (y + dy, x + dx)
--   answer_of         the numbers of each case: the distortion, 1 where it is over, and the rows
--   measure_vector    the answer: the number and zeros, or 0 and these
use Rattle.std.specs.Prelude.{ℕ, ◌≡◌, true, false, cond, eqb, length}
use borrow.Author.Tests.{ne_eqb}
use Rattle.order.specs.declared.Vector.{Vector}
use Rattle.measures.specs.Measures.{measure_ok}
use Rattle.frame.specs.declared.Setting.{Setting}
use Rattle.frame.specs.Pictures.{Pair}
use Rattle.frame.specs.Candidates.{candidate}
use Rattle.refusals.specs.Refusals.{unless, first_refusal, first_refusal_some, first_refusal_none, place_ok, pair_refusal}
use Rattle.measuring.specs.declared.Measured.{Measured}
use Rattle.distortion.specs.Blocks.{measure_in, newer_block, older_block}
use Rattle.measuring.specs.declared.Measurement.{Measurement}
use Rattle.measuring.specs.declared.Measurement.TheVariants.{Within, Over}
use Rattle.measuring.specs.Measurement.{measurement}

-- 8 measuring one vector: not a candidate of window 16
unfoldable pub measure_refusal : ℕ → ℕ → Setting → ℕ → ℕ → Vector → ℕ
measure_refusal older newer s y x v =
    first_refusal (pair_refusal older newer s)
    (unless (measure_ok s.measure) 51
    (unless (place_ok s y x) 7
    (unless (candidate s 16 y x v) 8 0)))

abbrev pub refused_by : ℕ → Measured
refused_by refusal = record { refusal = refusal; distortion = 0; over = 0; rows = 0 }

unfoldable pub measure_at : Pair → ℕ → ℕ → Vector → ℕ → Measurement
measure_at p y x v ceiling = measurement (measure_in p) ceiling p.setting.n (newer_block p y x) (older_block p y x v)

unfoldable pub answer_of : Measurement → Measured
answer_of (Within d rows) = record { refusal = 0; distortion = d; over = 0; rows = rows }
answer_of (Over rows) = record { refusal = 0; distortion = 0; over = 1; rows = rows }

unfoldable pub measure_vector : Pair → ℕ → ℕ → Vector → ℕ → Measured
measure_vector p y x v ceiling =
    let refusal = measure_refusal (length p.older) (length p.newer) p.setting y x v in
    cond (eqb refusal 0) (answer_of (measure_at p y x v ceiling)) (refused_by refusal)

-- ---- the answer, by what the tests found

module _ (p : Pair) (y x : ℕ) (v : Vector) (ceiling : ℕ) where
  abbrev before : ℕ
  before = pair_refusal (length p.older) (length p.newer) p.setting

  pub measured_refused : (before ≡ 0 → ⊥) → measure_vector p y x v ceiling ≡ refused_by before
  unfolding measure_vector measure_refusal
  measured_refused h = rw (first_refusal_some before _ h, ne_eqb before 0 h)

  pub measured_unmeasured : before ≡ 0 → measure_ok p.setting.measure ≡ false → measure_vector p y x v ceiling ≡ refused_by 51
  unfolding measure_vector measure_refusal
  measured_unmeasured h m = rw (first_refusal_none before _ h, m)

  pub measured_elsewhere : before ≡ 0 → measure_ok p.setting.measure ≡ true → place_ok p.setting y x ≡ false → measure_vector p y x v ceiling ≡ refused_by 7
  unfolding measure_vector measure_refusal
  measured_elsewhere h m i = rw (first_refusal_none before _ h, m, i)

  module _ (h : before ≡ 0) (m : measure_ok p.setting.measure ≡ true) (i : place_ok p.setting y x ≡ true) where
    pub measured_outside : candidate p.setting 16 y x v ≡ false → measure_vector p y x v ceiling ≡ refused_by 8
    unfolding measure_vector measure_refusal
    measured_outside e = rw (first_refusal_none before _ h, m, i, e)

    pub measured_at : candidate p.setting 16 y x v ≡ true → measure_vector p y x v ceiling ≡ answer_of (measure_at p y x v ceiling)
    unfolding measure_vector measure_refusal
    measured_at e = rw (first_refusal_none before _ h, m, i, e)
