-- `scaled`: the product fits 32 bits.
use native.Mathlib.Omega.{arith}
use borrow.Author.Rules.{rules}
use lib.IntN.{pos, ◌*ℤ◌}
use mir.Syntax.{w32}
use mir.Facts.{to_z-of_z}
use mir.ValLaws.{to_z_pos}
use Rattle.probe.proofs.scaled.Goals as goal

pub returns : goal.returns
returns c =
    rw (to_z_pos w32 c.args.p (omega (arith, c.requires)), to_z-of_z c.ranges.d, to_z-of_z {w = w32} {z = pos c.args.p *ℤ c.args.d} (search rules))
