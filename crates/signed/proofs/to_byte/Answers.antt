-- `to_byte`: d itself where it is not below 0, else d + 256; both are bytes.
use mathlib.Core.Path.{◌≡◌, refl, ◌∙◌}
use borrow.Author.Rules.{rules}
use lib.IntN.{ℤ, pos, negsuc}
use mir.Syntax.{w8}
use mir.Val.{of_z}
use mir.Facts.{to_z-of_z}
use Rattle.signed.specs.Values.{byte_of}
use Rattle.signed.proofs.to_byte.Goals as goal

byte : (d : ℤ) → of_z w8 d ≡ byte_of d
unfolding byte_of
byte (pos n) = refl
byte (negsuc n) = refl

pub returns : goal.returns
returns c = (rw (to_z-of_z c.ranges.d, to_z-of_z {w = w8} {z = c.args.d} (search rules)) at c.cast_unsigned.ensures) ∙ byte c.args.d
