-- `put_block`: a still block is its command alone, any other its numbers.
use mathlib.Core.Path.{◌≡◌, sym, ◌∙◌}
use native.Mathlib.Omega.{arith}
use borrow.Author.Rules.{rules}
use Rattle.put.specs.Put.{Put}
use Rattle.log_head.specs.Heads.{is_still}
use Rattle.log_list.specs.Listed.{value_of}
use Rattle.log_writing.specs.Parts.{numbers_bytes}
use Rattle.log_writing.proofs.Bytes.{numbers_few, block_still, block_moved}
use Rattle.log_writing.proofs.put_block.Goals as goal

pub returns-then-is_still : goal.returns-then-is_still
returns-then-is_still c =
    let v = value_of c.args.list.now c.args.k in
    let still : c.is_still.result ≡ is_still (v 0) (v 1) (v 2) = search rules in
    (rw (block_still _ _ (sym still ∙ c.if-is_still.true)) c.put_byte.ensures, omega (arith, c.put_byte.ensures.place))

pub returns : goal.returns
returns c =
    let a = c.args in
    let v = value_of a.list.now a.k in
    let still : c.is_still.result ≡ is_still (v 0) (v 1) (v 2) = search rules in
    let w : Put a.out.now a.at (numbers_bytes (v 0) (v 1) (v 2)) c.put_numbers.new.out c.put_numbers.result = search rules in
    (rw (block_moved _ _ (sym still ∙ c.if-is_still.false)) w, omega (arith, w.place, numbers_few (v 0) (v 1) (v 2)))
