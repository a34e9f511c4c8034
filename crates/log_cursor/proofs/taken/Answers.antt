-- `taken`: the rules, then the number.
use native.Mathlib.Omega.{arith}
use mathlib.Core.Path.{◌≡◌, sym, ◌∙◌}
use Rattle.log_command.specs.Commands.{command_number}
use Rattle.log_cursor.specs.Step.{taken_no, taken_other, taken_yes}
use lib.ListN.{get_or}
use Rattle.log_cursor.proofs.taken.Goals as goal

pub returns-then-not-passes : goal.returns-then-not-passes
returns-then-not-passes c = c.refused.ensures ∙ sym (taken_no _ _ _ _ _ (c.if-not-passes.true))

pub returns-then-from-command_number : goal.returns-then-from-command_number
returns-then-from-command_number c =
    let a = c.args in
    let other : get_or a.log.now a.at 0 ≡ command_number a.command → ⊥ = λ e. omega (arith, c.if-from-command_number.true, c.from.ensures, e, c.command_number.ensures) in
    c.refused-then-from-command_number.ensures ∙ sym (taken_other _ _ _ _ _ (c.if-not-passes.false) other)

pub returns : goal.returns
returns c =
    sym (taken_yes _ _ _ _ _ (c.if-not-passes.false) (omega (arith, c.from.ensures, c.if-from-command_number.false, c.command_number.ensures)))
