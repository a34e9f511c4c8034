-- A voter's vote counts for its vector alone, since two vectors of window 16 have different places; the walk along the preference table then keeps
-- the first greatest count.
--   code_below                         a vector's place is one of the 1,089
--   tally_first, tally_more, tally_room the votes before the first block, with one block more, and that a vote fits
--   tally_reading                      the reading of the votes is that of the blocks
--   Walked                             the walk after k vectors; walked_first, walked_yes, walked_no, walked_last
use Prim.Native.Nat.{ℕ, ◌+◌, ◌≤◌, ◌<◌}
use mathlib.Core.Path.{◌≡◌, refl, sym, ap, ap₂, ◌∙◌}
use mathlib.Core.Bool.{Bool, true, false, ◌&&◌, and-true, and-false}
use mathlib.Core.List.{List}
use native.Mathlib.Omega.{arith}
use lib.IntN.{ℤ, nat_abs}
use lib.ListN.{length, get_or, length-set, replicate, get_or-replicate}
use lib.Seq.{get_or-set_same, get_or-set_other}
use Rattle.base.specs.Tests.{one}
use Rattle.base.specs.Greatest.{most_to, most_one, most_yes, most_no, most_below, most_ext}
use Rattle.signed.specs.Int.{same, parts}
use Rattle.signed.specs.Values.{bias, bias_is}
use Rattle.order.specs.declared.Vector.{Vector}
use Rattle.order.specs.Vectors.{vec, Within, same?, same_yes, vector_count}
use Rattle.order.specs.Preference.{preferred}
use Rattle.order.proofs.Order.{inside}
use Rattle.reading.specs.Reading.{votes, majority, reading_of}
use Rattle.reading.specs.Tally.{code, voted, votes_at, reading_in, Tally}
use Rattle.reading.proofs.Majority.{same_no, votes_none, votes_more, votes_few}

-- ---- places

pub bias_small : (d : ℤ) → nat_abs d ≤ 16 → bias 16 d ≤ 32
bias_small d h = omega (arith, bias_is 16 d h, parts d)

bias_inj : (a b : ℤ) → nat_abs a ≤ 16 → nat_abs b ≤ 16 → bias 16 a ≡ bias 16 b → a ≡ b
bias_inj a b h l e = same a b (omega (arith, bias_is 16 a h, bias_is 16 b l))

pub code_below : (v : Vector) → Within 16 v → code v < vector_count
code_below v w = omega (arith, bias_small v.dy w.down, bias_small v.dx w.across)

code_inj : (u v : Vector) → Within 16 u → Within 16 v → code u ≡ code v → u ≡ v
code_inj u v a b e =
    let u1 = bias_small u.dx a.across in
    let v1 = bias_small v.dx b.across in
    let y : bias 16 u.dy ≡ bias 16 v.dy = omega arith in
    let x : bias 16 u.dx ≡ bias 16 v.dx = omega arith in
    ap₂ vec (bias_inj u.dy v.dy a.down b.down y) (bias_inj u.dx v.dx a.across b.across x)

-- ---- votes

module _ (voting : ℕ → Bool) (has : ℕ → Vector) where
  pub tally_first : Tally voting has 0 (replicate vector_count 0)
  tally_first = record { long = refl; each = λ v h. get_or-replicate vector_count (code v) 0 0 (code_below v h) ∙ sym (votes_none voting has v) }

  module _ (n : ℕ) (l : List ℕ) (t : Tally voting has n l) where
    pub tally_more : (v : Vector) (b : Bool) → v ≡ has n → b ≡ voting n → Within 16 v → Tally voting has (n + 1) (voted l v b)
    tally_more v b e f w = record {
      long = length-set l _ _ ∙ t.long;
      each = λ u h. one-more u h (same? v u) refl ∙ sym (rw (← e, ← f) at (votes_more voting has n u));
    }
      where
        one-more : (u : Vector) → Within 16 u → (s : Bool) → same? v u ≡ s → get_or (voted l v b) (code u) 0 ≡ votes voting has n u + one (b && s)
        one-more u h true q =
            let s = sym (same_yes v u q) in
            let room : code v < length l = omega (arith, t.long, code_below v w) in
            rw (s, and-true b) (get_or-set_same l (code v) _ 0 room ∙ ap (λ (x : ℕ). x + one b) (t.each v w))
        one-more u h false q =
            let apart : code u ≡ code v → ⊥ = λ s. same_no v u q (code_inj v u w h (sym s)) in
            rw (and-false b) (get_or-set_other l (code v) (code u) _ 0 apart ∙ t.each u h ∙ omega arith)

    pub tally_room : (v : Vector) → Within 16 v → n < 4294967295 → get_or l (code v) 0 < 4294967295
    tally_room v w h = omega (arith, t.each v w, votes_few voting has n v)

    -- the reading of the votes is that of the blocks
    pub tally_reading : reading_in l ≡ reading_of voting has n
    unfolding reading_in reading_of majority
    tally_reading =
        rw (most_ext (votes_at l) (λ k. votes voting has n (preferred k)) vector_count (λ k h. t.each (preferred k) (inside k h)))
        (ap (λ (x : ℕ). record { dy = (preferred most).dy; dx = (preferred most).dx; votes = x }) (t.each (preferred most) (inside most (most_below _ 1088))))
      where
        most : ℕ
        most = most_to (λ k. votes voting has n (preferred k)) vector_count

-- ---- the walk along the table: the first greatest of k vectors

pub record Walked (l : List ℕ) (k : ℕ) (best : Vector) (most : ℕ) : Type 0 where
  pub below : k ≤ vector_count
  pub lead : best ≡ preferred (most_to (votes_at l) k)
  pub has : most ≡ votes_at l (most_to (votes_at l) k)

pub walked_first : (l : List ℕ) (best : Vector) (most : ℕ) → best ≡ preferred 0 → most ≡ get_or l (code best) 0 → Walked l 1 best most
walked_first l best most e g = record {
  below = omega arith;
  lead = rw (most_one (votes_at l)) e;
  has = rw (most_one (votes_at l)) (g ∙ ap (λ (v : Vector). get_or l (code v) 0) e);
}

module _ {l : List ℕ} {k : ℕ} {best : Vector} {most : ℕ} (s : Walked l k best most) (h : k < vector_count) (v : Vector) (x : ℕ)
    (e : v ≡ preferred k) (g : x ≡ get_or l (code v) 0)
  where
    next_is : x ≡ votes_at l k
    next_is = g ∙ ap (λ (u : Vector). get_or l (code u) 0) e

    pub walked_yes : most < x → Walked l (k + 1) v x
    walked_yes m =
        let i = most_yes (votes_at l) k (omega (arith, next_is, s.has)) in
        record { below = omega arith; lead = rw (← i) e; has = rw (← i) next_is }

    pub walked_no : x ≤ most → Walked l (k + 1) best most
    walked_no m =
        let i = most_no (votes_at l) k (omega (arith, next_is, s.has)) in
        record { below = omega arith; lead = rw (← i) s.lead; has = rw (← i) s.has }

pub walked_last : {l : List ℕ} {best : Vector} {most : ℕ} → Walked l vector_count best most → record { dy = best.dy; dx = best.dx; votes = most } ≡ reading_in l
unfolding reading_in
walked_last s = rw (s.lead, s.has)
