-- `reach`: its parts are those of the definition, and each lesser of two is at most the window.
use Prim.Native.Nat.{ℕ, ◌+◌, ◌-◌, ◌≤◌, min}
use mathlib.Core.Path.{◌≡◌}
use native.Mathlib.Omega.{arith}
use borrow.Author.Rules.{rules, Fits-under}
use mir.Syntax.{w64}
use mir.Val.{Fits}
use Rattle.frame.specs.declared.SearchBlock.{SearchBlock}
use Rattle.reach.specs.Reach.{reach}
use Rattle.reach.proofs.reach.Goals as goal
use Rattle.reach.proofs.reach.Goals.{After-min-on}

at_most : (r a w : ℕ) → r ≡ min a w → w ≤ 16 → r ≤ 16
at_most r a w e h = omega arith

at-most-first : (r w a : ℕ) → r ≡ min w a → w ≤ 16 → r ≤ 16
at-most-first r w a e h = omega arith

fits-two : (a b : ℕ) → a ≤ 16 → b ≤ 16 → Fits w64 (a + b)
fits-two a b h k = Fits-under w64 (a + b) 33 (omega arith) tt

fits-three : (a b c : ℕ) → a ≤ 16 → b ≤ 16 → c ≤ 1 → Fits w64 (a + b + c)
fits-three a b c h k l = Fits-under w64 (a + b + c) 34 (omega arith) tt

region-is : (b : SearchBlock) (up down back on : ℕ) → up ≡ min b.y b.w → down ≡ min b.w (b.setting.height - b.setting.n - b.y)
    → back ≡ min b.x b.w → on ≡ min b.w (b.setting.width - b.setting.n - b.x)
    → record { top = 16 - up; left = 16 - back; rows = up + down + 1; columns = back + on + 1 } ≡ reach b
unfolding reach
region-is b up down back on e f g h = rw (e, f, g, h)

-- how far the candidates go from (0,0): up, down, back and on
module _ (c : After-min-on) where
  up-most : c.before.min-up.result ≤ 16
  up-most = at_most _ _ _ c.before.min-up.ensures (c.before.before.before).requires.window

  down-most : c.before.min-down.result ≤ 16
  down-most = at-most-first _ _ _ c.before.min-down.ensures (c.before.before.before).requires.window

  back-most : c.before.min-back.result ≤ 16
  back-most = at_most _ _ _ c.before.min-back.ensures (c.before.before.before).requires.window

  on-most : c.min-on.result ≤ 16
  on-most = at-most-first _ _ _ c.min-on.ensures (c.before.before.before).requires.window

pub overflow_sub-result : goal.overflow_sub-result
overflow_sub-result c = up-most c

pub overflow_sub-result-2 : goal.overflow_sub-result-2
overflow_sub-result-2 c = back-most c

pub overflow_add-result : goal.overflow_add-result
overflow_add-result c = fits-two _ _ (up-most c) (down-most c)

pub overflow_add-result-2 : goal.overflow_add-result-2
overflow_add-result-2 c = fits-three _ _ _ (up-most c) (down-most c) (search rules)

pub overflow_add-result-3 : goal.overflow_add-result-3
overflow_add-result-3 c = fits-two _ _ (back-most c) (on-most c)

pub overflow_add-result-4 : goal.overflow_add-result-4
overflow_add-result-4 c = fits-three _ _ _ (back-most c) (on-most c) (search rules)

pub returns : goal.returns
returns c =
    region-is (c.before.before.before).args.b _ _ _ _ c.min-up.ensures c.min-down.ensures c.min-back.ensures
    c.min-on.ensures
