-- Copies of a frame's rows, in rows of an array, and the distortion of a copied block in a copied search window.
--   copied_rows   an array with so many rows of a frame stored from a place on: stored_rows of its pels
--   copy_rows     the first m rows of a copied 16 × 16 block against the older rows from place `at` on, by absolute differences
--   copy_up_to     its distortion as far as a ceiling goes, which is looked at half way down
use Rattle.std.specs.Prelude.{ℕ, ◌+◌, ◌*◌, cond, List, leb, get_or}
use Rattle.base.specs.Lists.{stored_rows}
use Rattle.measures.specs.Measures.{measure_of}
use Rattle.distortion.specs.Blocks.{rows_from}

abbrev pub copied_rows : List ℕ → ℕ → ℕ → ℕ → List ℕ → ℕ → ℕ → ℕ → List ℕ
copied_rows frame width from columns copy at pitch rows = stored_rows (λ i j. get_or frame (from + i * width + j) 0) columns copy at pitch rows

abbrev pub copy_rows : List ℕ → List ℕ → ℕ → ℕ → ℕ
copy_rows window block at m = rows_from (measure_of 1) window block 64 0 at 16 m

unfoldable pub copy_up_to : ℕ → List ℕ → List ℕ → ℕ → ℕ
copy_up_to ceiling window block at =
    let half = copy_rows window block at 8 in
    cond (leb half ceiling) (copy_rows window block at 16) half
