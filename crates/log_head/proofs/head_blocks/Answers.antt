-- `head_blocks`: the setting of an accepted head fits.
use mathlib.Core.Path.{refl}
use Rattle.frame.specs.Grid.{blocks_few}
use Rattle.log_head.specs.Heads.{setting_in, headed}
use Rattle.log_head.proofs.head_blocks.Goals as goal

pub block_count-requires : goal.block_count-requires
block_count-requires c = rw c.setting_in.ensures (headed _ c.requires).fitting

pub returns : goal.returns
returns c =
    let h = c.args.h in
    rw (c.block_count.ensures, c.setting_in.ensures) (refl, blocks_few (setting_in h) (headed h c.requires).fitting)
