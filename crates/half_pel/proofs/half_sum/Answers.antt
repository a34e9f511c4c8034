-- `half_sum`: the array holds the half-pel block, so its distortion is that block's.
use mathlib.Core.Path.{◌≡◌, refl}
use lib.ListN.{replicate}
use Rattle.measures.specs.Measures.{measure_of}
use Rattle.distortion.specs.Blocks.{kernel_is, kernel_sum}
use Rattle.half_pel.specs.HalfPel.{half_rows}
use Rattle.half_pel.proofs.Values.{half_rows_inside, half-distortion}
use Rattle.half_pel.proofs.half_sum.Goals as goal
use Rattle.half_pel.proofs.half_sum.Goals.{After-half_block}

-- what the array holds
half_is : (h : After-half_block) → let a = h.args in
    h.half_block.new.half ≡ half_rows a.frame.now a.s.width a.p a.q (replicate 1024 0) a.s.n
half_is h = h.half_block.ensures

pub distortion_from-requires : goal.distortion_from-requires
distortion_from-requires c =
    let a = c.args in
    let k = kernel_is c.kernel-kernel.ensures c.requires.1 in (
      k.small,
      rw (k.size, half_is (goal.at.distortion_from-requires c).After-half_block)
          (half_rows_inside a.frame.now a.s.width a.p a.q (replicate 1024 0) a.s.n refl c.requires.0.small a.block.now c.requires.2 c.requires.1),
    )

pub returns : goal.returns
returns c =
    let a = c.args in
    let k = kernel_is c.kernel-kernel.ensures c.requires.1 in
    let e =
    half-distortion a.frame.now a.s.width a.p a.q (replicate 1024 0) a.s.n refl c.requires.0.small (measure_of a.s.measure)
    a.block.now in
    rw (half_is (goal.at.returns c).After-half_block, e) at (kernel_sum k c.distortion_from.ensures).up_to
