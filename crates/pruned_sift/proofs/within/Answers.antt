-- `within`: after i turns those within the limit in the first i rows are counted, together and row by row.
use Prim.Native.Nat.{ℕ, ◌<◌}
use mathlib.Core.Path.{◌≡◌, sym, ◌∙◌}
use native.Mathlib.Omega.{arith}
use lib.ListN.{length, length-set}
use Rattle.base.specs.Sum.{sum_to_none, sum_to_more}
use Rattle.pruned_sift.specs.Laid.{row_spots, within}
use Rattle.pruned_sift.proofs.Sifted.{kept_in_row, kept_all}
use Rattle.pruned_sift.proofs.Rows.{stored_more}
use Rattle.pruned_sift.proofs.within.Goals as goal

pub loop-i-init : goal.loop-i-init
loop-i-init c = (c.requires.2, omega arith, sym (sum_to_none _), λ k h. absurd (omega arith))

pub loop-i-preserved : goal.loop-i-preserved
loop-i-preserved c =
    let l = c.loop-i in
    let a = c.args in
    let d = c.requires.0.around in
    let counted : ℕ → ℕ = λ k. length (within a.numbers.now a.pitch a.r a.most (row_spots a.r k)) in
    let small : l.i < 33 = omega (arith, d.few_rows) in
    let k = kept_in_row a.numbers.now a.pitch a.r a.most l.i d.few_columns in
    let e : c.within_row-count.result ≡ counted l.i = omega (arith, c.within_row-count.ensures, k) in (
      simp length-set l.invariant.0,
      omega arith,
      omega (arith, sum_to_more counted l.i, l.invariant.2, e),
      stored_more counted l.counts l.i _ (omega (arith, l.invariant.0)) l.invariant.3 e,
    )

pub returns : goal.returns
returns c =
    let l = c.loop-i in
    let a = c.args in
    let e : l.i ≡ a.r.rows = omega arith in
    ((rw e at l.invariant.2) ∙ kept_all a.numbers.now a.pitch a.r a.most, λ i h. l.invariant.3 i (omega arith))
