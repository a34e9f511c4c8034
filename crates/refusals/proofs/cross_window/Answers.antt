-- `cross_window`: below 2 and over 16 there is no such window; between them one bit set decides.
use mathlib.Core.Path.{sym}
use native.Mathlib.Omega.{arith}
use Rattle.refusals.specs.Cross.{one-bit, none_below, none_above}
use Rattle.refusals.proofs.cross_window.Goals as goal

pub returns-then-w-lt2 : goal.returns-then-w-lt2
returns-then-w-lt2 c = sym (none_below _ (omega arith))

pub returns-then-w-gt16 : goal.returns-then-w-gt16
returns-then-w-gt16 c = sym (none_above c.args.w (omega arith))

pub returns : goal.returns
returns c = one-bit _ (omega arith) (omega arith)
