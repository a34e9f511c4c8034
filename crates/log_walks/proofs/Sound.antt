-- The walker loses no byte: what it hands out of an accepted log, put into bytes again, is the log. Each command's bytes are those at its offset.
use Prim.Native.Nat.{ℕ, ◌+◌}
use mathlib.Core.Path.{◌≡◌, refl, sym, ap, ap₂, ◌∙◌}
use mathlib.Core.Bool.{Bool, true, false}
use mathlib.Core.List.{List, [], ◌∷◌, ◌++◌, flat_map}
use native.Mathlib.Omega.{arith}
use lib.ListN.{get_or, drop}
use lib.Seq.{drop-length}
use Rattle.base.specs.Lists.{list_to}
use Rattle.signed.specs.Values.{byte_of, byte_of_signed}
use Rattle.log_head.specs.declared.Head.{Head}
use Rattle.log_command.specs.declared.Command.{Command}
use Rattle.log_command.specs.declared.Command.TheVariants as Cmd
use Rattle.log_command.specs.Numbers.{be2, be4, bytes2, bytes4}
use Rattle.log_command.specs.Commands.{carries, is_long, command_number, command_bytes, command_size}
use Rattle.log_head.specs.Heads.{head_blocks}
use Rattle.log_command.specs.Operands.{head_in, dy_in, dx_in, distortion_in, block_in}
use Rattle.log_cursor.specs.Walk.{walk, last_of}
use Rattle.base.specs.Fronts.{drop_front}
use Rattle.log_walks.proofs.Bytes.{Bytes, byte_at, bytes_be2, bytes_be4}
use Rattle.log_walks.proofs.Accepted.{AcceptedFrom, last, block, still, accepted_log}

module _ {log : List ℕ} (bytes : Bytes log) where
  -- the bytes at an offset are those of the command there: of a block with a distortion of two bytes and of four, by its number
  bytes_of_block : (at : ℕ) → get_or log at 0 ≡ command_number (block_in log at)
      → list_to (λ i. get_or log (at + i) 0) (command_size (block_in log at)) ≡ command_bytes (block_in log at)
  unfolding list_to
  bytes_of_block at own = go (is_long (distortion_in log at)) refl
    where
      z : at + 0 ≡ at
      z = omega arith

      dy : byte_of (dy_in log at) ≡ get_or log (at + 1) 0
      dy = byte_of_signed (get_or log (at + 1) 0) (byte_at bytes (at + 1))

      dx : byte_of (dx_in log at) ≡ get_or log (at + 2) 0
      dx = byte_of_signed (get_or log (at + 2) 0) (byte_at bytes (at + 2))

      two : bytes2 (be2 log (at + 3)) ≡ get_or log (at + 3) 0 ∷ get_or log (at + 4) 0 ∷ []
      two = let e : at + 3 + 1 ≡ at + 4 = omega arith in bytes_be2 bytes (at + 3) ∙ rw e

      four : bytes4 (be4 log (at + 3)) ≡ get_or log (at + 3) 0 ∷ get_or log (at + 4) 0 ∷ get_or log (at + 5) 0 ∷ get_or log (at + 6) 0 ∷ []
      four =
          let e : at + 3 + 1 ≡ at + 4 = omega arith in
          let f : at + 3 + 2 ≡ at + 5 = omega arith in
          let g : at + 3 + 3 ≡ at + 6 = omega arith in
          bytes_be4 bytes (at + 3) ∙ rw (e, f, g)

      go : (t : Bool) → is_long (distortion_in log at) ≡ t
          → list_to (λ i. get_or log (at + i) 0) (command_size (block_in log at)) ≡ command_bytes (block_in log at)
      go true e =
          let b : get_or log at 0 ≡ 5 = own ∙ rw e in
          let d : distortion_in log at ≡ be4 log (at + 3) = rw b in
          rw (e, d, z, b, dy, dx, four)
      go false e =
          let b : get_or log at 0 ≡ 2 = own ∙ rw e in
          let d : distortion_in log at ≡ be2 log (at + 3) = rw b in
          rw (e, d, z, b, dy, dx, two)

  still_bytes : (at : ℕ) → get_or log at 0 ≡ 3 → list_to (λ i. get_or log (at + i) 0) 1 ≡ command_bytes Cmd.Still
  unfolding list_to
  still_bytes at e =
      let z : at + 0 ≡ at = omega arith in
      rw (z, e)

  bytes_of_end : (at blocks : ℕ) → get_or log at 0 ≡ 4 → be4 log (at + 1) ≡ blocks → list_to (λ i. get_or log (at + i) 0) 5 ≡ command_bytes (Cmd.End blocks)
  unfolding list_to
  bytes_of_end at blocks e f =
      let z : at + 0 ≡ at = omega arith in
      let a : at + 1 + 1 ≡ at + 2 = omega arith in
      let b : at + 1 + 2 ≡ at + 3 = omega arith in
      let c : at + 1 + 3 ≡ at + 4 = omega arith in
      rw (z, e, ← f) (ap (◌∷◌ 4) (sym (bytes_be4 bytes (at + 1) ∙ rw (a, b, c))))

  bytes_of_head : get_or log 0 0 ≡ command_number (Cmd.Head (head_in log 0))
      → list_to (λ i. get_or log (0 + i) 0) (command_size (Cmd.Head (head_in log 0))) ≡ command_bytes (Cmd.Head (head_in log 0))
  unfolding list_to head_in
  bytes_of_head own = go (carries (head_in log 0)) refl
    where
      go : (t : Bool) → carries (head_in log 0) ≡ t
          → list_to (λ i. get_or log (0 + i) 0) (command_size (Cmd.Head (head_in log 0))) ≡ command_bytes (Cmd.Head (head_in log 0))
      go true e =
          let b : get_or log 0 0 ≡ 6 = own ∙ rw e in
          rw (e, b) (ap₂ (λ (x y : List ℕ). 6 ∷ x ++ y ++ (get_or log 5 0 ∷ get_or log 6 0 ∷ get_or log 7 0 ∷ get_or log 8 0 ∷ [])) (sym (bytes_be2 bytes 1)) (sym (bytes_be2 bytes 3)))
      go false e =
          let b : get_or log 0 0 ≡ 1 = own ∙ rw e in
          rw (e, b) (ap₂ (λ (x y : List ℕ). 1 ∷ x ++ y ++ (get_or log 5 0 ∷ get_or log 6 0 ∷ get_or log 7 0 ∷ [])) (sym (bytes_be2 bytes 1)) (sym (bytes_be2 bytes 3)))

  rest_bytes : {h : Head} {at k : ℕ} {cs : List Command} → AcceptedFrom log h at k cs → drop at log ≡ flat_map command_bytes cs
  unfolding flat_map
  rest_bytes {h} {at} (last e t f n) =
      drop_front log at 5 0 t.room ∙ ap₂ ◌++◌ (bytes_of_end at (head_blocks h) t.byte n) (rw f (drop-length log))
  rest_bytes {at} (block l t o u rest) = drop_front log at (command_size (block_in log at)) 0 t.room ∙ ap₂ ◌++◌ (bytes_of_block at t.byte) (rest_bytes rest)
  rest_bytes {at} (still l t rest) = drop_front log at 1 0 t.room ∙ ap₂ ◌++◌ (still_bytes at t.byte) (rest_bytes rest)

pub sound : (log : List ℕ) → Bytes log → command_number (last_of (walk log)) ≡ 34 → log ≡ flat_map command_bytes (walk log)
unfolding flat_map
sound log bytes e =
    let a = accepted_log log e in
    let size = command_size (Cmd.Head (head_in log 0)) in
    let z : 0 + size ≡ size = omega arith in
    rw z at (drop_front log 0 size 0 a.begins.room)
    ∙ ap₂ ◌++◌ (bytes_of_head bytes a.begins.byte ∙ ap (λ (h : Head). command_bytes (Cmd.Head h)) (sym a.is)) (rw a.is at (rest_bytes bytes a.rest))
    ∙ ap (flat_map command_bytes) (sym a.whole)
