-- The commands of a log hold the three numbers of each block: so its field is the front of the list that it was made from, and the log of a field does not
-- depend on what stands behind it.
use Prim.Native.Nat.{ℕ, zero, suc, ◌+◌, ◌*◌, ◌≤◌, ◌<◌}
use mathlib.Core.Path.{◌≡◌, refl, sym, ap, ap₂, ◌∙◌}
use mathlib.Core.Bool.{true, ◌&&◌}
use mathlib.Core.List.{List, [], ◌∷◌, ◌++◌, flat_map, append-nil}
use native.Mathlib.Omega.{arith}
use lib.IntN.{ℤ, pos}
use lib.ListN.{length, take, get_or-append}
use lib.Seq.{take-add}
use Rattle.base.specs.Lists.{list_to, list_to_ext}
use Rattle.base.specs.Tests.{and_left, and_right, T_true, true_T}
use Rattle.signed.specs.Int.{up, same, eq_z, eq_yes}
use Rattle.log_head.specs.declared.Head.{Head}
use Rattle.log_command.specs.declared.Command.{Command}
use Rattle.log_command.specs.declared.Command.TheVariants as Cmd
use Rattle.log_command.specs.Commands.{command_bytes, block_values}
use Rattle.log_head.specs.Heads.{head_refusal, head_blocks, is_still, entry}
use Rattle.log_command.specs.Logs.{block_command, log_commands, log_of}
use Rattle.log_list.specs.Listed.{value_of}
use Rattle.log_cursor.specs.Walk.{last_of}
use Rattle.log_list.specs.Listed.{listed_ok}
use Rattle.log_reading.specs.Reading.{field_of}
use Rattle.base.specs.Fronts.{drop_front, flat_map_append}
use Rattle.log_walks.proofs.Made.{Made, as_still, as_block, made}

-- a still block is (0,0) with distortion 0
zero_is : (z : ℤ) → eq_z z (pos 0) ≡ true → z ≡ pos 0
zero_is z e = same z (pos 0) (eq_yes z (pos 0) e)

still_is : (dy dx z : ℤ) → is_still dy dx z ≡ true → (dy ≡ pos 0) × (dx ≡ pos 0) × (z ≡ pos 0)
unfolding is_still
still_is dy dx z e =
    let a = eq_z dy (pos 0) in
    let b = eq_z dx (pos 0) in
    let c = eq_z z (pos 0) in
    let t = true_T (a && (b && c)) e in
    let u = and_right a (b && c) t in
    (zero_is dy (T_true a (and_left a (b && c) t)), zero_is dx (T_true b (and_left b c u)), zero_is z (T_true c (and_right b c u)))

module _ (h : Head) (list : List ℤ) (ok : head_refusal h ≡ 0) (entries : (k : ℕ) → k < head_blocks h → listed_ok h list k ≡ true) where
  pub values_of_block : (k : ℕ) → k < head_blocks h → (x : Command) → Made (value_of list k 0) (value_of list k 1) (value_of list k 2) x
      → block_values x ≡ value_of list k 0 ∷ value_of list k 1 ∷ value_of list k 2 ∷ []
  values_of_block k l x (as_still e) = let s = still_is (value_of list k 0) (value_of list k 1) (value_of list k 2) e in rw (s.0, s.1, s.2)
  values_of_block k l x (as_block e) =
      let z = value_of list k 2 in
      let is = entry h ok k (value_of list k 0) (value_of list k 1) z (entries k l) in
      rw (same (pos (up z)) z (omega (arith, is.above)))

  -- three more of a list
  take_three : (n : ℕ) → 3 * suc n ≤ length list → take (3 * suc n) list ≡ take (3 * n) list ++ (value_of list n 0 ∷ value_of list n 1 ∷ value_of list n 2 ∷ [])
  unfolding list_to
  take_three n l =
      let e : 3 * suc n ≡ 3 * n + 3 = omega arith in
      rw (e, take-add (3 * n) 3 list, drop_front list (3 * n) 3 (pos 0) (omega arith))

  blocks_values : (n : ℕ) → n ≤ head_blocks h → 3 * n ≤ length list → flat_map block_values (list_to (block_command list) n) ≡ take (3 * n) list
  unfolding list_to flat_map
  blocks_values zero l m = refl
  blocks_values (suc n) l m =
      let b = block_command list n in
      flat_map_append block_values (list_to (block_command list) n) (b ∷ [])
      ∙ ap₂ ◌++◌ (blocks_values n (omega arith) (omega arith)) (append-nil (block_values b) ∙ values_of_block n (omega arith) b (made list n))
      ∙ sym (take_three n m)

  pub field_is : 3 * head_blocks h ≤ length list → field_of (log_commands h list ++ (Cmd.Refused 34 0 ∷ [])) ≡ take (3 * head_blocks h) list
  unfolding field_of log_commands flat_map
  field_is m =
      let blocks = list_to (block_command list) (head_blocks h) in
      let end = Cmd.End (head_blocks h) ∷ [] in
      flat_map_append block_values (blocks ++ end) (Cmd.Refused 34 0 ∷ [])
      ∙ append-nil (flat_map block_values (blocks ++ end))
      ∙ flat_map_append block_values blocks end
      ∙ append-nil (flat_map block_values blocks)
      ∙ blocks_values (head_blocks h) (omega arith) m

-- how a walk ends
pub last_is : (cs : List Command) (x : Command) → last_of (cs ++ (x ∷ [])) ≡ x
unfolding last_of
last_is [] x = refl
last_is (c ∷ []) x = refl
last_is (c ∷ d ∷ ds) x = last_is (d ∷ ds) x

-- what stands behind a field does not matter
module _ (h : Head) (list more : List ℤ) (whole : 3 * head_blocks h ≤ length list) where
  front_value : (k i : ℕ) → k < head_blocks h → i < 3 → value_of (list ++ more) k i ≡ value_of list k i
  front_value k i l n = get_or-append list more (pos 0) (3 * k + i) (omega arith)

  pub front_entry : (k : ℕ) → k < head_blocks h → listed_ok h (list ++ more) k ≡ listed_ok h list k
  front_entry k l = rw (front_value k 0 l (omega arith), front_value k 1 l (omega arith), front_value k 2 l (omega arith))

  pub front_log : log_of h (list ++ more) ≡ log_of h list
  unfolding log_of log_commands block_command
  front_log =
      ap (λ (cs : List Command). flat_map command_bytes (Cmd.Head h ∷ cs ++ (Cmd.End (head_blocks h) ∷ [])))
      (list_to_ext (block_command (list ++ more)) (block_command list) (head_blocks h)
      (λ k l. rw (front_value k 0 l (omega arith), front_value k 1 l (omega arith), front_value k 2 l (omega arith))))
