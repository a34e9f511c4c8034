-- What the verdict says: 0 just where head and list pass and every block does.
use Prim.Native.Nat.{ℕ, ◌*◌}
use mathlib.Core.Path.{◌≡◌, refl, ◌∙◌}
use mathlib.Core.Bool.{Bool, true, false, cond}
use mathlib.Core.List.{List}
use native.Mathlib.Omega.{arith}
use borrow.Author.Tests.{ltb-false, eqb-true, eqb-false, le-ltb, le-leb, eq-eqb}
use lib.Dec.{leb, ltb, eqb, leb→le}
use lib.IntN.{ℤ}
use lib.ListN.{length}
use Rattle.base.specs.FirstWrong.{first_wrong, before_wrong, all_right}
use Rattle.frame.specs.Grid.{blocks_few}
use Rattle.refusals.specs.Refusals.{first_refusal_zero, first_refusal_none, unless_zero}
use Rattle.log_head.specs.declared.Head.{Head}
use Rattle.log_head.specs.Heads.{setting_in, head_refusal, head_blocks, headed}
use Rattle.log_list.specs.Listed.{list_refusal, listed_ok, Verdict, verdict, list_verdict, Writable, AllPass}

-- 1 3 4 51 5 10 let head and list pass
pub writable : (h : Head) (list : ℕ) → list_refusal h list ≡ 0 → Writable h list
unfolding list_refusal
writable h list e =
    let a = first_refusal_zero (head_refusal h) _ e in
    let b = unless_zero (leb (3 * head_blocks h) list) 9 0 a.1 in
    record { fine = a.0; few = blocks_few (setting_in h) (headed h a.0).fitting; room = leb→le _ _ b.0 }

module _ (h : Head) (list : List ℤ) where
  abbrev wrong : ℕ
  wrong = first_wrong (listed_ok h list) 0 (head_blocks h)

  pub verdict_yes : (list_verdict h list).refusal ≡ 0 → AllPass h list
  unfolding list_verdict
  verdict_yes = go (eqb (list_refusal h (length list)) 0) refl (ltb wrong (head_blocks h)) refl
    where
      go : (a : Bool) → eqb (list_refusal h (length list)) 0 ≡ a → (b : Bool) → ltb wrong (head_blocks h) ≡ b
          → (cond {A = Verdict} a (cond b (verdict 16 wrong) (verdict 0 0)) (verdict (list_refusal h (length list)) 0)).refusal ≡ 0
          → AllPass h list
      go true e true f z = absurd (omega arith)
      go true e false f z = record {
        listed = writable h (length list) (eqb-true _ _ e);
        each = λ k l. before_wrong (listed_ok h list) (head_blocks h) 0 k (omega arith) (omega (arith, ltb-false wrong (head_blocks h) f));
      }
      go false e b f z = absurd (eqb-false _ _ e z)

  pub verdict_is : AllPass h list → list_verdict h list ≡ verdict 0 0
  unfolding list_verdict list_refusal
  verdict_is p =
      let fine = first_refusal_none (head_refusal h) _ p.listed.fine in
      let r : list_refusal h (length list) ≡ 0 = fine ∙ rw (le-leb (3 * head_blocks h) (length list) p.listed.room) in
      let w : wrong ≡ head_blocks h = all_right (listed_ok h list) 0 (head_blocks h) (λ i a b. p.each i (omega arith)) ∙ omega arith in
      rw (eq-eqb (list_refusal h (length list)) 0 r, le-ltb wrong (head_blocks h) (omega arith))
