-- `log_read`: the first call, then 10, then the end of the walk.
use mathlib.Core.Path.{◌≡◌, refl, ap, sym, ◌∙◌}
use borrow.Author.Tests.{lt-ltb, le-ltb, eq-eqb, ne_eqb}
use mathlib.Core.Bool.{false}
use mathlib.Core.List.{List}
use Prim.Native.Nat.{ℕ}
use Rattle.log_cursor.specs.declared.Cursor.{Cursor}
use Rattle.log_cursor.specs.declared.WalkStep.{WalkStep}
use Rattle.log_cursor.specs.Step.{step_at, start_cursor}
use Rattle.log_command.specs.Commands.{command_number, command_head, is_refused}
use Rattle.log_cursor.specs.Walk.{log_head}
use Rattle.log_head.specs.Heads.{head_refusal}
use Rattle.log_walks.proofs.Accepted.{begun}
use Rattle.log_reading.specs.Reading.{log_read}
use Rattle.log_reading.proofs.log_read.Goals as goal
use Rattle.log_reading.proofs.log_read.Goals.{After-command_head-head, Else-is_refused}

-- the first call
first : (log : List ℕ) (s : WalkStep) (c : Cursor) → s ≡ step_at log c → c ≡ start_cursor → s ≡ step_at log start_cursor
first log s c e f = e ∙ ap (step_at log) f

-- it is not refused
goes_on : (c : Else-is_refused) → is_refused (step_at c.args.log.now start_cursor).command ≡ false
goes_on c =
    let s = first _ _ _ c.step_at-s.ensures c.start.ensures in
    ap (λ s. is_refused s.command) (sym s) ∙ sym c.is_refused.ensures ∙ c.if-is_refused.false

-- what it handed out
head_is : (c : After-command_head-head) → c.command_head-head.result ≡ log_head c.args.log.now
head_is c = c.command_head-head.ensures ∙ ap (λ s. command_head s.command) (first _ _ _ c.step_at-s.ensures c.start.ensures)

pub returns-then-is_refused : goal.returns-then-is_refused
unfolding log_read
returns-then-is_refused c =
    let s = first _ _ _ c.step_at-s.ensures c.start.ensures in
    rw (← s, ← c.is_refused.ensures, c.if-is_refused.true) c.refused_by.ensures

pub head_blocks-requires : goal.head_blocks-requires
head_blocks-requires c =
    let at = goal.at.head_blocks-requires c in
    ap head_refusal (head_is c) ∙ (begun _ (goes_on at.Else-is_refused)).0

pub returns-then-list-head_blocks : goal.returns-then-list-head_blocks
unfolding log_read
returns-then-list-head_blocks c =
    let at = goal.at.returns-then-list-head_blocks c in
    let s = first _ _ _ c.step_at-s.ensures c.start.ensures in
    rw (
      goes_on at.Else-is_refused,
      ← head_is at.After-command_head-head,
      ← c.head_blocks.ensures.0,
      lt-ltb _ _ c.if-list-head_blocks.true,
      ← s,
    ) c.refused_read.ensures

pub returns-then-command_number-eq34 : goal.returns-then-command_number-eq34
unfolding log_read
returns-then-command_number-eq34 c =
    let at = goal.at.returns-then-command_number-eq34 c in
    rw (
      goes_on at.Else-is_refused,
      ← head_is at.After-command_head-head,
      ← c.head_blocks.ensures.0,
      le-ltb _ _ c.if-list-head_blocks.false,
      ← c.walk_end-ended.ensures,
      ← c.command_number.ensures,
      eq-eqb _ 34 c.if-command_number-eq34.true,
    ) refl

pub returns : goal.returns
unfolding log_read
returns c =
    let at = goal.at.returns c in
    let other = ne_eqb (command_number c.walk_end-ended.result) 34 (λ e. c.if-command_number-eq34.false (c.command_number.ensures ∙ e)) in
    rw (
      goes_on at.Else-is_refused,
      ← head_is at.After-command_head-head,
      ← c.head_blocks.ensures.0,
      le-ltb _ _ c.if-list-head_blocks.false,
      ← c.walk_end-ended.ensures,
      other,
    ) c.refused_by-2.ensures
