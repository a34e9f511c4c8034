-- Each block of an accepted log is one that 16 lets pass: a block command was tested, and (0,0) with distortion 0 always passes.
use Prim.Native.Nat.{ℕ, zero, suc, ◌+◌, ◌<◌}
use mathlib.Core.Path.{◌≡◌}
use mathlib.Core.List.{List, ◌∷◌, flat_map}
use mathlib.Core.Bool.{true}
use native.Mathlib.Nat.{add-zero}
use native.Mathlib.Omega.{arith}
use borrow.Author.Tests.{le-leb}
use lib.IntN.{ℤ, pos}
use Rattle.base.specs.Tests.{T_true}
use Rattle.frame.specs.Grid.{block_row, block_column, block_down, block_across}
use Rattle.frame.specs.Candidates.{candidate, still_candidate}
use Rattle.order.specs.Vectors.{vec}
use Rattle.log_head.specs.declared.Head.{Head}
use Rattle.log_command.specs.declared.Command.{Command}
use Rattle.log_command.specs.Commands.{command_number, block_values}
use Rattle.log_head.specs.Heads.{setting_in, largest_in, head_refusal, headed, head_blocks, entry_ok}
use Rattle.log_list.specs.Listed.{value_of}
use Rattle.log_cursor.specs.Walk.{walk, log_head, last_of}
use Rattle.log_walks.proofs.Accepted.{AcceptedFrom, last, block, still, accepted_log}
use Rattle.log_walks.proofs.Whole.{value_next}

-- (0,0) with distortion 0
still_ok : (h : Head) → head_refusal h ≡ 0 → (k : ℕ) → k < head_blocks h → entry_ok h k (pos 0) (pos 0) (pos 0) ≡ true
unfolding entry_ok
still_ok h ok k l =
    let s = setting_in h in
    let f = (headed h ok).fitting in
    let t = still_candidate s h.w (block_row s k) (block_column s k) (block_down s f k l) (block_across s f k l) in
    let c = T_true (candidate s h.w (block_row s k) (block_column s k) (vec (pos 0) (pos 0))) t in
    rw (c, le-leb 0 (largest_in h) (omega arith))

-- what holds of the three numbers of block i of a list
abbrev Passes : Head → ℕ → List ℤ → ℕ → Type 0
Passes h k list i = entry_ok h k (value_of list i 0) (value_of list i 1) (value_of list i 2) ≡ true

passes_next : (h : Head) (k i : ℕ) (a b c : ℤ) (list : List ℤ) → Passes h (k + 1 + i) list i → Passes h (k + suc i) (a ∷ b ∷ c ∷ list) (suc i)
passes_next h k i a b c list p =
    let e : k + suc i ≡ k + 1 + i = omega arith in
    rw (e, value_next a b c list i 0, value_next a b c list i 1, value_next a b c list i 2) p

rest_entries : {log : List ℕ} {h : Head} {at k : ℕ} {cs : List Command} → head_refusal h ≡ 0 → AcceptedFrom log h at k cs → (i : ℕ) → k + i < head_blocks h
    → Passes h (k + i) (flat_map block_values cs) i
unfolding flat_map
rest_entries ok (last e t f m) i l = absurd (omega arith)
rest_entries ok (block g t o u rest) zero l = rw add-zero o
rest_entries {h} {k} ok (block {cs = cs} g t o u rest) (suc i) l = passes_next h k i _ _ _ (flat_map block_values cs) (rest_entries ok rest i (omega arith))
rest_entries {h} {k} ok (still g t rest) zero l = rw add-zero (still_ok h ok k g)
rest_entries {h} {k} ok (still {cs = cs} g t rest) (suc i) l = passes_next h k i _ _ _ (flat_map block_values cs) (rest_entries ok rest i (omega arith))

pub entries : (log : List ℕ) → command_number (last_of (walk log)) ≡ 34 → (k : ℕ) → k < head_blocks (log_head log)
    → Passes (log_head log) k (flat_map block_values (walk log)) k
unfolding flat_map
entries log e k l =
    let a = accepted_log log e in
    let z : 0 + k ≡ k = omega arith in
    rw a.whole (rw z at (rest_entries a.ok a.rest k (omega arith)))
