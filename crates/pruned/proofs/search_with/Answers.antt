-- `search_with`: the boxes, then the tests.
use Prim.Native.Nat.{suc}
use native.Mathlib.Nat.{le_refl}
use native.Mathlib.Omega.{arith}
use Rattle.pruned.proofs.Blocks.{block_size_power}
use Rattle.pruned.proofs.search_with.Goals as goal

pub fill-requires : goal.fill-requires
fill-requires c = let p = c.requires in (p.0, p.1, p.2)

pub tests-requires : goal.tests-requires
tests-requires c =
    let p = c.requires in
    let f = c.fill in
    let power = block_size_power c.args.matching.block.setting.n c.args.matching.ready.placed.paired.allowed in (
      record {
        ready = c.args.matching.ready;
        region = p.0;
        boxed = f.ensures;
        room = omega (arith, f.auto.boxes, p.1);
        exponent = suc power.0;
        power = power.1;
        inside = le_refl _;
      },
      p.3,
      p.4,
    )

pub returns : goal.returns
returns c = c.tests.ensures
