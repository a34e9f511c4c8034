-- 01, "Pictures, blocks, vectors": "A pel is one byte. A frame is rows of pels, top row first. Width and height are 4 to 1,024; the lent slice has
-- exactly width × height bytes. Block size N is 4, 8 or 16, at most width and height." 02, request 4: "N may be 32".
--   Setting (src)  width, height, N and the measure (02, request 1)
--   Pair         an older and a newer frame, with their setting
--   pel          the pel at a row and a column of a frame
--   Fitting      a setting at which a block of N pels, whatever N is, fits a frame of at most 1,024 × 1,024
--   largest_n     32; largest_distortion: by a measure, 255 × N² or 65,025 × N² of it; count_number: how many counts a search has, the last at last_count
use Rattle.std.specs.Prelude.{ℕ, ◌+◌, ◌-◌, ◌*◌, ◌≤◌, ◌<◌, List, get_or}
use Rattle.std.proofs.Common.{arith}
use Rattle.base.specs.Index.{row_fits, frame_small}
use Rattle.measures.specs.Measures.{measure_of}
use Rattle.frame.specs.declared.Setting.{Setting}

abbrev pub setting : ℕ → ℕ → ℕ → ℕ → Setting
setting width height n measure = record { width = width; height = height; n = n; measure = measure }

pub record Pair : Type 0 where
  pub older : List ℕ
  pub newer : List ℕ
  pub setting : Setting

abbrev pub pair_of : List ℕ → List ℕ → Setting → Pair
pair_of older newer s = record { older = older; newer = newer; setting = s }

abbrev pub pel : List ℕ → ℕ → ℕ → ℕ → ℕ
pel frame width r c = get_or frame (r * width + c) 0

-- the largest N, and the largest distortion by a measure
abbrev pub largest_n : ℕ
largest_n = 32

abbrev pub largest_distortion : ℕ → ℕ
largest_distortion measure = largest_n * (largest_n * (measure_of measure).most)

-- how many counts a search has, one for each m = 32, 16, 8, 4, 2, 1, and the place of the last, for m = 1
abbrev pub count_number : ℕ
count_number = 6

abbrev pub last_count : ℕ
last_count = count_number - 1

pub record Fitting (s : Setting) : Type 0 where
  pub some : 0 < s.n
  pub across : s.n ≤ s.width
  pub down : s.n ≤ s.height
  pub wide : s.width ≤ 1024
  pub high : s.height ≤ 1024

-- N pels from row r, column c on lie in the frame
pub row-inside : (s : Setting) (r c n : ℕ) → r < s.height → c + n ≤ s.width → r * s.width + c + n ≤ s.height * s.width
row-inside s r c n h k = omega (arith, row_fits r s.height s.width h)

pub pels_few : (s : Setting) → Fitting s → s.height * s.width ≤ 1048576
pels_few s f = frame_small s.height s.width f.high f.wide
