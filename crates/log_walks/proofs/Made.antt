-- Three numbers of a list make a still block or a block: which of the two is what `is_still` says of them.
use Prim.Native.Nat.{ℕ}
use mathlib.Core.Path.{◌≡◌, refl}
use mathlib.Core.Bool.{Bool, true, false, cond}
use mathlib.Core.List.{List}
use lib.IntN.{ℤ}
use Rattle.signed.specs.Int.{up}
use Rattle.log_command.specs.declared.Command.{Command}
use Rattle.log_command.specs.declared.Command.TheVariants as Cmd
use Rattle.log_head.specs.Heads.{is_still}
use Rattle.log_command.specs.Logs.{block_command}
use Rattle.log_list.specs.Listed.{value_of}

pub data Made (dy dx z : ℤ) : Command → Type 0 where
  as_still : is_still dy dx z ≡ true → Made dy dx z Cmd.Still
  as_block : is_still dy dx z ≡ false → Made dy dx z (Cmd.Block dy dx (up z))

pub made : (list : List ℤ) (k : ℕ) → Made (value_of list k 0) (value_of list k 1) (value_of list k 2) (block_command list k)
unfolding block_command
made list k = go (value_of list k 0) (value_of list k 1) (value_of list k 2) (is_still (value_of list k 0) (value_of list k 1) (value_of list k 2)) refl
  where
    go : (dy dx z : ℤ) (t : Bool) → is_still dy dx z ≡ t → Made dy dx z (cond t Cmd.Still (Cmd.Block dy dx (up z)))
    go dy dx z true e = as_still e
    go dy dx z false e = as_block e
