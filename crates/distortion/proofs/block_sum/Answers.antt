-- `block_sum`: the blocks begin at those places.
use Prim.Native.Nat.{◌+◌, ◌*◌, ◌≤◌}
use native.Mathlib.Omega.{arith}
use lib.ListN.{length}
use Rattle.measures.specs.Measures.{measure_of}
use Rattle.distortion.specs.Blocks.{kernel_is, kernel_sum, size_small, block_rows, begins, block-inside}
use Rattle.distortion.proofs.block_sum.Goals as goal
use Rattle.distortion.proofs.block_sum.Goals.{Start}

firsts : (s : Start) → let a = s.args in
    (a.y * a.s.width + a.x ≤ length a.newer.now) × (a.r * a.s.width + a.c ≤ length a.older.now)
firsts s = begins _ _ _ _ _ _ _ s.requires

pub overflow_mul-a : goal.overflow_mul-a
overflow_mul-a c = omega (arith, firsts (goal.at.overflow_mul-a c).Start)

pub overflow_add-a : goal.overflow_add-a
overflow_add-a c = omega (arith, firsts (goal.at.overflow_add-a c).Start)

pub overflow_mul-b : goal.overflow_mul-b
overflow_mul-b c = omega (arith, firsts (goal.at.overflow_mul-b c).Start)

pub overflow_add-b : goal.overflow_add-b
overflow_add-b c = omega (arith, firsts (goal.at.overflow_add-b c).Start)

pub kernel-requires : goal.kernel-requires
kernel-requires c = size_small _ c.requires.placed.paired.allowed

pub distortion_from-requires : goal.distortion_from-requires
distortion_from-requires c =
    let k = kernel_is c.kernel.ensures c.requires.placed.paired.allowed in
    (k.small, rw k.size (block-inside _ _ _ _ _ _ _ c.requires))

pub returns : goal.returns
returns c =
    let k = kernel_is c.kernel.ensures c.requires.placed.paired.allowed in
    rw (block_rows (measure_of c.args.s.measure)) (kernel_sum k c.distortion_from.ensures).up_to
