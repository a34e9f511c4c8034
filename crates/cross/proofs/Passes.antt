-- The definitions as the code works them out: there are log2 w - 1 passes, those left lead from the best by now, at p, to where all lead from the
-- first, at w / 2; and the two sides of the test against T.
use Prim.Native.Nat.{ℕ, zero, suc, ◌+◌, ◌-◌, ◌*◌, ◌/◌, ◌≤◌, ◌<◌}
use mathlib.Core.Path.{◌≡◌, refl, sym, ap, ◌∙◌}
use native.Mathlib.Omega.{arith}
use borrow.Author.Tests.{lt-ltb, le-ltb}
use lib.Count.{count_trailing_zeros}
use lib.Dec.{T, lit≤}
use Rattle.refusals.specs.Cross.{cross_window, cross_elim, log2, cross as window}
use Rattle.search.specs.Target.{Target}
use Rattle.probe.specs.declared.BestSoFar.{BestSoFar}
use Rattle.probe.specs.Probe.{origin, Seen, at_origin}
use Rattle.probe.specs.BestSoFar.{seen_of, Holds}
use Rattle.cross.specs.Cross.{pass, all_passes, finished, cross}

-- n passes, p halved after each
unfoldable pub passes_in : ℕ → Target → ℕ → Seen → Seen
passes_in zero t p s = s
passes_in (suc n) t p s = passes_in n t (p / 2) (pass t p s)

pass_last : (n : ℕ) (t : Target) (p : ℕ) (s : Seen) → n ≤ 0 → passes_in n t p s ≡ s
unfolding passes_in
pass_last zero t p s h = refl
pass_last (suc n) t p s h = absurd (omega arith)

pass_more : (n : ℕ) (t : Target) (p : ℕ) (s : Seen) → 0 < n → passes_in n t p s ≡ passes_in (n - 1) t (p / 2) (pass t p s)
unfolding passes_in
pass_more zero t p s h = absurd (omega arith)
pass_more (suc n) t p s h = let e : suc n - 1 ≡ n = omega arith in rw e

-- of a window of cross: the passes of steps 3 to 5, p from w / 2 down to 2, are log2 w - 1
pub passes_many : (t : Target) (s : Seen) (w : ℕ) → T (cross_window w) → passes_in (log2 w - 1) t (w / 2) s ≡ all_passes w t (w / 2) s
unfolding all_passes passes_in count_trailing_zeros
passes_many t s = cross_elim (λ w. passes_in (log2 w - 1) t (w / 2) s ≡ all_passes w t (w / 2) s) refl refl refl refl

pub log2_some : (w : ℕ) → T (cross_window w) → 1 ≤ log2 w
unfolding count_trailing_zeros
log2_some = cross_elim (λ w. 1 ≤ log2 w) (lit≤ tt) (lit≤ tt) (lit≤ tt) (lit≤ tt)

pub record Passing (t : Target) (w : ℕ) (at-origin best : BestSoFar) (p left : ℕ) : Type 0 where
  pub less : p ≤ w / 2
  pub few : best.count + 9 * left ≤ at-origin.count + 27
  pub leads : passes_in left t p (seen_of best) ≡ all_passes w t (w / 2) (seen_of at-origin)

module _ (t : Target) (w : ℕ) (at-origin : BestSoFar) where
  pub passing_first : T (cross_window w) → Passing t w at-origin at-origin (w / 2) (log2 w - 1)
  passing_first c = record {
    less = omega arith;
    few = omega (arith, (window w c).few);
    leads = passes_many t (seen_of at-origin) w c;
  }

  module _ (best : BestSoFar) (p left : ℕ) (g : Passing t w at-origin best p left) where
    pub passing_more : (r : BestSoFar) → 0 < left → Holds r (pass t p (seen_of best)) (best.count + 9) → Passing t w at-origin r (p / 2) (left - 1)
    passing_more r h k =
        record {
          less = let l = g.less in omega arith;
          few = let f = g.few in let q = k.few in omega arith;
          leads = ap (passes_in (left - 1) t (p / 2)) k.is ∙ sym (pass_more left t p (seen_of best) h) ∙ g.leads;
        }

    pub passing_last : left ≤ 0 → Holds best (all_passes w t (w / 2) (seen_of at-origin)) (at-origin.count + 27)
    passing_last h =
        record {
          is = sym (pass_last left t p (seen_of best) h) ∙ g.leads;
          few = let f = g.few in omega arith;
        }

module _ (t : Target) (limit w : ℕ) (s : Seen) (e : s ≡ at_origin t) where
  at_start : s.least ≡ t.cost origin
  unfolding at_origin
  at_start = ap (λ q. q.least) e

  pub cross_stops : s.least < limit → s ≡ cross t limit w
  unfolding cross
  cross_stops h = let l = at_start in rw (lt-ltb (t.cost origin) limit (omega arith)) e

  pub cross_goes : limit ≤ s.least → finished t (all_passes w t (w / 2) s) ≡ cross t limit w
  unfolding cross
  cross_goes h = let l = at_start in rw (le-ltb (t.cost origin) limit (omega arith)) (ap (λ q. finished t (all_passes w t (w / 2) q)) e)
