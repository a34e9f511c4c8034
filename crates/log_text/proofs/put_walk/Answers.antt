-- `put_walk`: the first command, then what follows an accepted head.
use mathlib.Core.Path.{◌≡◌, ap, sym, ◌∙◌}
use native.Mathlib.Omega.{arith}
use Rattle.log_cursor.specs.Step.{step_at, start_cursor}
use Rattle.log_text.proofs.Blocks.{walk_refused, walk_begun, walk_more}
use Rattle.log_text.proofs.put_walk.Goals as goal
use Rattle.log_text.proofs.put_walk.Goals.{After-step_at-s}

-- the first call
first : (c : After-step_at-s) → c.step_at-s.result ≡ step_at c.args.log.now start_cursor
first c = c.step_at-s.ensures ∙ ap (step_at _) c.start.ensures

pub returns-then-is_refused : goal.returns-then-is_refused
returns-then-is_refused c =
    walk_refused _ _ (first (goal.at.returns-then-is_refused c).After-step_at-s) (sym c.is_refused.ensures ∙ c.if-is_refused.true) c.put_line-at.ensures.0

pub put_body-requires : goal.put_body-requires
put_body-requires c =
    let b = walk_begun _ _ (first (goal.at.put_body-requires c).After-step_at-s) (sym c.is_refused.ensures ∙ c.if-is_refused.false) _ c.command_head.ensures in
    (b.0, b.1, c.requires, omega (arith, c.put_line-at.ensures.1), b.2)

pub returns : goal.returns
returns c =
    walk_more _ _ (first (goal.at.returns c).After-step_at-s) (sym c.is_refused.ensures ∙ c.if-is_refused.false) _ c.command_head.ensures c.put_line-at.ensures.0 c.put_body.ensures
