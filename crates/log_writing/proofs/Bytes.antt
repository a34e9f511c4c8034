-- A log is the head's bytes, the blocks' bytes one behind the other, and the end's: so it is put, and so its length is summed.
use Prim.Native.Nat.{ℕ, ◌+◌, ◌≤◌}
use mathlib.Core.Path.{◌≡◌, refl, ap, ◌∙◌}
use mathlib.Core.List.{List, [], ◌∷◌, ◌++◌, flat_map}
use mathlib.Core.Bool.{true, false}
use native.Mathlib.Omega.{arith}
use lib.IntN.{ℤ}
use lib.ListN.{length, drop, length-append}
use Rattle.base.specs.Lists.{list_to, concat_to, concat_to_more}
use Rattle.base.specs.Fronts.{flat_map_append, flat_map_list_to}
use Rattle.signed.specs.Int.{up}
use Rattle.put.specs.Digits.{cond_length}
use Rattle.put.specs.Put.{Put, put_over, over_fits}
use Rattle.log_head.specs.declared.Head.{Head}
use Rattle.log_command.specs.Numbers.{bytes2, bytes4}
use Rattle.log_command.specs.Commands.{carries, is_long, head_number, command_bytes, size_by, head_size}
use Rattle.log_head.specs.Heads.{head_blocks, is_still}
use Rattle.log_command.specs.Logs.{block_command, log_commands, log_of}
use Rattle.log_list.specs.Listed.{value_of}
use Rattle.log_writing.specs.Writing.{write_result}
use Rattle.log_writing.specs.Parts.{head_bytes, numbers_bytes, end_bytes, block_bytes}

-- a head has at most 9 bytes, a block at most 7
pub head_few : (h : Head) → length (head_bytes h) ≤ 9
unfolding head_bytes
head_few h = omega (arith, cond_length (carries h) (h.measure ∷ []) [] 1 (omega arith) (omega arith))

pub numbers_few : (dy dx distortion : ℤ) → length (numbers_bytes dy dx distortion) ≤ 7
unfolding numbers_bytes
numbers_few dy dx distortion =
    let d = up distortion in
    omega (arith, cond_length (is_long d) (bytes4 d) (bytes2 d) 4 (omega arith) (omega arith))

module _ (list : List ℤ) where
  pub log_parts : (h : Head) → log_of h list ≡ head_bytes h ++ (concat_to (block_bytes list) (head_blocks h) ++ end_bytes (head_blocks h))
  unfolding log_of log_commands head_bytes block_bytes end_bytes flat_map
  log_parts h =
      ap (◌++◌ (head_bytes h))
      (flat_map_append command_bytes (list_to (block_command list) (head_blocks h)) _ ∙ rw (flat_map_list_to command_bytes (block_command list) (head_blocks h)))

  module _ (k : ℕ) where
    pub block_still : is_still (value_of list k 0) (value_of list k 1) (value_of list k 2) ≡ true → block_bytes list k ≡ 3 ∷ []
    unfolding block_bytes block_command
    block_still e = rw e refl

    pub block_moved : is_still (value_of list k 0) (value_of list k 1) (value_of list k 2) ≡ false
        → block_bytes list k ≡ numbers_bytes (value_of list k 0) (value_of list k 1) (value_of list k 2)
    unfolding block_bytes block_command numbers_bytes
    block_moved e = rw e refl

  -- the length, block by block
  pub sized_first : (size : ℕ) → size ≡ size + length (concat_to (block_bytes list) 0)
  unfolding concat_to
  sized_first size = omega arith

  pub sized_more : (first size k more : ℕ) → size ≡ first + length (concat_to (block_bytes list) k) → more ≡ length (block_bytes list k)
      → size + more ≡ first + length (concat_to (block_bytes list) (k + 1))
  sized_more first size k more e m =
      omega (arith, ap length (concat_to_more (block_bytes list) k), length-append (concat_to (block_bytes list) k) (block_bytes list k))

  pub sized_all : (h : Head) (size : ℕ) → size ≡ size_by (head_number h) + 5 + length (concat_to (block_bytes list) (head_blocks h))
      → size ≡ length (log_of h list)
  unfolding head_bytes end_bytes
  sized_all h size e =
      let blocks = concat_to (block_bytes list) (head_blocks h) in
      let around = length-append (head_bytes h) (blocks ++ end_bytes (head_blocks h)) in
      omega (arith, head_size h, ap length (log_parts h), around, length-append blocks (end_bytes (head_blocks h)))

-- a log put from the start of a buffer that it fits
pub log_put : {log before after : List ℕ} {next size : ℕ} → Put before 0 log after next → size ≡ length log → size ≤ length before
    → write_result (record { refusal = 0; place = 0; length = next }) after
    ≡ write_result (record { refusal = 0; place = 0; length = size }) (log ++ drop size before)
log_put {log} {before} p e fits =
    let o = put_over p in
    rw (o.0, o.1, e, over_fits log before (omega arith))
