-- `put_entry`: three stores, each inside the list.
use Prim.Native.Nat.{suc, ◌+◌}
use mathlib.Core.Path.{◌≡◌, refl}
use native.Mathlib.Omega.{arith}
use native.Mathlib.Numerals.{add-one}
use lib.ListN.{length-set}
use mir.Facts.{to_z-of_z}
use mir.Syntax.{w32}
use mir.ValLaws.{to_z_pos}
use Rattle.put.proofs.put_entry.Goals as goal

pub bounds-list-at-2 : goal.bounds-list-at-2
bounds-list-at-2 c = simp length-set (omega arith)

pub bounds-list-at-3 : goal.bounds-list-at-3
bounds-list-at-3 c = simp length-set (omega arith)

pub returns : goal.returns
returns c =
    let e : c.args.at + 2 ≡ suc (suc c.args.at) = omega arith in
    record { holds = rw (to_z-of_z c.ranges.dy, to_z-of_z c.ranges.dx, to_z_pos w32 c.args.distortion (omega arith), e, add-one); place = refl }
