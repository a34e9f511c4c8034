-- `block_size`: a still block is its command alone; how many bytes another takes hangs on its distortion.
use mathlib.Core.Path.{◌≡◌, ap, sym, ◌∙◌}
use native.Mathlib.Omega.{arith}
use borrow.Author.Rules.{rules}
use lib.IntN.{nat_abs}
use lib.ListN.{length}
use Rattle.signed.specs.Int.{up, parts}
use Rattle.log_head.specs.Heads.{is_still}
use Rattle.log_list.specs.Listed.{value_of}
use Rattle.log_command.specs.Commands.{block_number, size_by, block_size}
use Rattle.log_writing.specs.Parts.{numbers_bytes}
use Rattle.log_writing.proofs.Bytes.{block_still, block_moved, numbers_few}
use Rattle.log_writing.proofs.block_size.Goals as goal

pub returns-then-is_still : goal.returns-then-is_still
returns-then-is_still c =
    let v = value_of c.args.list.now c.args.k in
    let still : c.is_still.result ≡ is_still (v 0) (v 1) (v 2) = search rules in
    (sym (ap length (block_still _ _ (sym still ∙ c.if-is_still.true))), omega arith)

pub returns : goal.returns
unfolding numbers_bytes
returns c =
    let list = c.args.list.now in
    let v = value_of list c.args.k in
    let still : c.is_still.result ≡ is_still (v 0) (v 1) (v 2) = search rules in
    let m : c.unsigned_abs.result ≡ nat_abs (v 2) = search rules in
    let n : c.unsigned_abs.result ≡ up (v 2) = omega (arith, m, c.requires.entry, parts (v 2)) in
    let number : c.block_number.result ≡ block_number (up (v 2)) = rw n at c.block_number.ensures in
    let size = c.size_by-size.ensures ∙ ap size_by number ∙ sym (block_size (v 0) (v 1) (up (v 2))) in
    rw (block_moved list c.args.k (sym still ∙ c.if-is_still.false)) (size, omega (arith, size, numbers_few (v 0) (v 1) (v 2)))
