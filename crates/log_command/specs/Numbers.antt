-- 01, "Log": "operands of fixed width, highest byte first". Numbers of two and four bytes as a log has them, read (be) and written (bytes).
use Rattle.std.specs.Prelude.{ℕ, ◌+◌, ◌*◌, ◌/◌, ◌%◌, List, [], ◌∷◌, ◌++◌, get_or}

unfoldable pub be2 : List ℕ → ℕ → ℕ
be2 log i = get_or log i 0 * 256 + get_or log (i + 1) 0

unfoldable pub be4 : List ℕ → ℕ → ℕ
be4 log i = be2 log i * 65536 + be2 log (i + 2)

abbrev pub bytes2 : ℕ → List ℕ
bytes2 n = n / 256 ∷ n % 256 ∷ []

abbrev pub bytes4 : ℕ → List ℕ
bytes4 n = bytes2 (n / 65536) ++ bytes2 (n % 65536)
