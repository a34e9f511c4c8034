-- `put_body`: a turn puts the line of the next block; what is still to be put, put from here on, makes the whole.
use Prim.Native.Nat.{◌+◌}
use mathlib.Core.Path.{◌≡◌, sym, ◌∙◌}
use native.Mathlib.Omega.{arith}
use mathlib.Core.Bool.{false}
use Rattle.log_command.specs.Commands.{is_refused}
use Rattle.log_text.proofs.Blocks.{Printing, printing_more, printing_last}
use Rattle.log_text.proofs.Stills.{printing_stills}
use Rattle.log_text.proofs.put_body.Goals as goal
use Rattle.log_text.proofs.put_body.Goals.{After-body_command-command, After-command_size-next, Else-is_refused}

-- behind its line
behind : (c : After-command_size-next) →
    let s = c.args in
    Printing s.log.now s.head s.out.now s.from s.first c.put_block_line-at.new.out c.put_block_line-at.result
    (c.loop-k.next + c.command_size-next.result) (c.loop-k.k + 1)
behind c =
    let a = c.requires in
    let w = c.put_block_line-at.ensures in
    let t = rw c.head_blocks-all.ensures.0 at c.loop-k-test.true in
    let block : is_refused c.body_command-command.result ≡ false = sym c.is_refused.ensures ∙ c.if-is_refused.false in
    printing_more c.loop-k.invariant a.4 t a.0 _ c.body_command-command.ensures w.0 block w.1 _ c.command_size-next.ensures

pub returns-then-is_refused : goal.returns-then-is_refused
returns-then-is_refused c =
    let a = c.requires in
    let t = rw c.head_blocks-all.ensures.0 at c.loop-k-test.true in
    let refused = sym c.is_refused.ensures ∙ c.if-is_refused.true in
    printing_last c.loop-k.invariant a.4 t a.0 _ c.body_command-command.ensures c.put_line.ensures.0 refused

pub still_run-n-requires : goal.still_run-n-requires
still_run-n-requires c = ((behind (goal.at.still_run-n-requires c).After-command_size-next).inside, c.requires.2)

pub loop-k-preserved-then-command_number : goal.loop-k-preserved-then-command_number
loop-k-preserved-then-command_number c =
    let n = c.still_run-n.ensures in
    let w = c.put_stills-at.ensures in
    let p = behind (goal.at.loop-k-preserved-then-command_number c).After-command_size-next in
    printing_stills _ _ c.requires.4 p _ _ n.0 (omega (arith, c.loop-k-test.true, c.head_blocks-all.ensures.0)) n.2 w.0 w.1

pub loop-k-preserved : goal.loop-k-preserved
loop-k-preserved c = behind (goal.at.loop-k-preserved c).After-command_size-next
