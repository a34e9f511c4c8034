-- A number of two or four bytes is its bytes, and bytes are their number's: division by 256 and by 65,536 with remainder.
use Prim.Native.Nat.{ℕ, zero, suc, ◌+◌, ◌*◌, ◌<◌}
use mathlib.Core.Path.{◌≡◌, ap₂, ◌∙◌}
use mathlib.Core.List.{List, [], ◌∷◌, ◌++◌}
use native.Mathlib.Omega.{arith}
use lib.ListN.{get_or}
use Rattle.base.specs.Lists.{Each, none, more}
use Rattle.log_command.specs.Numbers.{be2, be4, bytes2, bytes4}

-- every number of the list is a byte
abbrev pub Bytes : List ℕ → Type 0
Bytes log = Each (λ (b : ℕ). b < 256) log

pub byte_at : {log : List ℕ} → Bytes log → (i : ℕ) → get_or log i 0 < 256
byte_at none i = omega arith
byte_at (more h rest) zero = h
byte_at (more h rest) (suc i) = byte_at rest i

-- a number below m behind a number of m's, taken apart again
parted256 : (a b : ℕ) → b < 256 → bytes2 (a * 256 + b) ≡ a ∷ b ∷ []
parted256 a b h = ap₂ (λ (x y : ℕ). x ∷ y ∷ []) (omega arith) (omega arith)

parted65536 : (a b : ℕ) → b < 65536 → bytes4 (a * 65536 + b) ≡ bytes2 a ++ bytes2 b
parted65536 a b h = ap₂ (λ (x y : ℕ). bytes2 x ++ bytes2 y) (omega arith) (omega arith)

module _ {log : List ℕ} (bytes : Bytes log) where
  be2_small : (i : ℕ) → be2 log i < 65536
  unfolding be2
  be2_small i = omega (arith, byte_at bytes i, byte_at bytes (i + 1))

  pub bytes_be2 : (i : ℕ) → bytes2 (be2 log i) ≡ get_or log i 0 ∷ get_or log (i + 1) 0 ∷ []
  unfolding be2
  bytes_be2 i = parted256 (get_or log i 0) (get_or log (i + 1) 0) (byte_at bytes (i + 1))

  pub bytes_be4 : (i : ℕ) → bytes4 (be4 log i) ≡ get_or log i 0 ∷ get_or log (i + 1) 0 ∷ get_or log (i + 2) 0 ∷ get_or log (i + 3) 0 ∷ []
  unfolding be4
  bytes_be4 i =
      let e : i + 2 + 1 ≡ i + 3 = omega arith in
      parted65536 (be2 log i) (be2 log (i + 2)) (be2_small (i + 2))
      ∙ ap₂ ◌++◌ (bytes_be2 i) (bytes_be2 (i + 2) ∙ rw e)
