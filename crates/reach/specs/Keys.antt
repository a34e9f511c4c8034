-- 01, "Pictures, blocks, vectors", the preference order: "smaller |dy| + |dx| first, then smaller dy, then smaller dx". As a number of the vector in
-- row i, column j of window 16, and as the lower part of a number that has a distortion or a distance above it.
--   order_code   the order: |dy| + |dx|, then the row, then the column
--   key_of       what is compared first, then the order
--   code_of      what a row or column of window 16 adds to the order, whose number counts so much: 64 for rows, 1 for columns
use Rattle.std.specs.Prelude.{ℕ, ◌+◌, ◌*◌}
use Rattle.signed.specs.Values.{abs_diff}

unfoldable pub order_code : ℕ → ℕ → ℕ
order_code i j = (abs_diff i 16 + abs_diff j 16) * 4096 + i * 64 + j

unfoldable pub key_of : ℕ → ℕ → ℕ → ℕ
key_of d i j = d * 262144 + order_code i j

abbrev pub code_of : ℕ → ℕ → ℕ
code_of weight i = abs_diff i 16 * 4096 + weight * i
