-- An accepted walk is the log's own: each block that it hands out is the one that its three numbers in the field make, for a still block is just
-- (0,0) with distortion 0.
use Prim.Native.Nat.{ℕ, zero, suc, ◌+◌, ◌*◌}
use mathlib.Core.Path.{◌≡◌, refl, sym, ap, ap₂, ◌∙◌}
use mathlib.Core.List.{List, [], ◌∷◌, ◌++◌, flat_map, append_assoc}
use native.Mathlib.Omega.{arith}
use lib.IntN.{ℤ, pos}
use Rattle.base.specs.Lists.{list_to, list_to_ext}
use Rattle.log_head.specs.declared.Head.{Head}
use Rattle.log_command.specs.declared.Command.{Command}
use Rattle.log_command.specs.declared.Command.TheVariants as Cmd
use Rattle.log_command.specs.Commands.{command_number, block_values}
use Rattle.log_head.specs.Heads.{head_blocks, is_still}
use Rattle.log_command.specs.Logs.{block_command, log_commands}
use Rattle.log_list.specs.Listed.{value_of}
use Rattle.log_command.specs.Operands.{block_in, dy_in, dx_in, distortion_in}
use Rattle.log_cursor.specs.Walk.{walk, log_head, last_of}
use Rattle.base.specs.Fronts.{list_to_front}
use Rattle.log_walks.proofs.Accepted.{AcceptedFrom, last, block, still, accepted_log}

-- behind the first block's three numbers
pub value_next : (a b c : ℤ) (list : List ℤ) (k i : ℕ) → value_of (a ∷ b ∷ c ∷ list) (suc k) i ≡ value_of list k i
value_next a b c list k i =
    let e : 3 * suc k + i ≡ suc (suc (suc (3 * k + i))) = omega arith in
    rw e

command_next : (a b c : ℤ) (list : List ℤ) (k : ℕ) → block_command (a ∷ b ∷ c ∷ list) (suc k) ≡ block_command list k
unfolding block_command
command_next a b c list k = rw (value_next a b c list k 0, value_next a b c list k 1, value_next a b c list k 2)

commands_next : (a b c : ℤ) (list : List ℤ) (n : ℕ)
    → list_to (block_command (a ∷ b ∷ c ∷ list)) (suc n) ≡ block_command (a ∷ b ∷ c ∷ list) 0 ∷ list_to (block_command list) n
commands_next a b c list n =
    list_to_front (block_command (a ∷ b ∷ c ∷ list)) n
    ∙ ap (◌∷◌ (block_command (a ∷ b ∷ c ∷ list) 0)) (list_to_ext _ (block_command list) n (λ i l. command_next a b c list i))

-- a block's command x before those of a list
one_block_more : (x : Command) (a b c : ℤ) (list : List ℤ) (n : ℕ) (cs end : List Command) → block_command (a ∷ b ∷ c ∷ list) 0 ≡ x
    → cs ≡ list_to (block_command list) n ++ end → x ∷ cs ≡ list_to (block_command (a ∷ b ∷ c ∷ list)) (suc n) ++ end
one_block_more x a b c list n cs end e f = ap₂ ◌∷◌ (sym e) f ∙ ap (λ (l : List Command). l ++ end) (sym (commands_next a b c list n))

rest_commands : {log : List ℕ} {h : Head} {at k : ℕ} {cs : List Command} → AcceptedFrom log h at k cs → (n : ℕ) → n + k ≡ head_blocks h
    → cs ≡ list_to (block_command (flat_map block_values cs)) n ++ (Cmd.End (head_blocks h) ∷ Cmd.Refused 34 0 ∷ [])
unfolding flat_map list_to block_command is_still
rest_commands (last e t f m) zero p = refl
rest_commands (last e t f m) (suc n) p = absurd (omega arith)
rest_commands (block l t o u rest) zero p = absurd (omega arith)
rest_commands {log} {at} (block {cs = cs} l t o u rest) (suc n) p =
    one_block_more (block_in log at) (dy_in log at) (dx_in log at) (pos (distortion_in log at)) (flat_map block_values cs) n cs _
    (rw u)
    (rest_commands rest n (omega arith))
rest_commands (still l t rest) zero p = absurd (omega arith)
rest_commands (still {cs = cs} l t rest) (suc n) p =
    one_block_more Cmd.Still (pos 0) (pos 0) (pos 0) (flat_map block_values cs) n cs _ refl (rest_commands rest n (omega arith))

pub whole : (log : List ℕ) → command_number (last_of (walk log)) ≡ 34
    → walk log ≡ log_commands (log_head log) (flat_map block_values (walk log)) ++ (Cmd.Refused 34 0 ∷ [])
unfolding log_commands flat_map
whole log e =
    let a = accepted_log log e in
    let n = head_blocks (log_head log) in
    let blocks = list_to (block_command (flat_map block_values a.commands)) n in
    rw a.whole
    (ap (◌∷◌ (Cmd.Head (log_head log)))
    (rest_commands a.rest n (omega arith) ∙ sym (append_assoc blocks (Cmd.End n ∷ []) (Cmd.Refused 34 0 ∷ []))))
