-- How held parts are added up: as numbers without a sign, in a way that tells whether one lies outside -16..16.
--   counted        part + 16, or 65,536 where it lies outside
--   counted_to      the sum of the first k places
use Rattle.std.specs.Prelude.{ℕ, cond, List, leb, ℤ, pos, nat_abs, get_or}
use Rattle.base.specs.Sum.{sum_to}
use Rattle.signed.specs.Values.{bias}

abbrev pub counted : ℤ → ℕ
counted z = cond (leb (nat_abs z) 16) (bias 16 z) 65536

abbrev pub counted_to : List ℤ → ℕ → ℕ
counted_to places = sum_to (λ i. counted (get_or places i (pos 0)))
