-- The vector of most voters is the one that the walk along the preference table keeps: every vector of window 16 stands there, in the order's order,
-- and a vector outside it has no voter. All laws are of any set of voters; where that is empty the majority is (0,0), the first of the order.
--   same_no                             what the test of two vectors says
--   votes_none, votes_more, votes_few   how votes grow; votes_ext: blocks with the same vectors, the same votes
--   votes_outside, votes_blank          a vector that no voter has, and a set without a voter
--   majority_most                       the majority has most voters, ties by preference order; most_unique: no other has
--   majority_blank                      no voter: (0,0); majority_within: a vector of window 16
use Prim.Native.Nat.{ℕ, ◌+◌, ◌≤◌, ◌<◌}
use mathlib.Core.Path.{◌≡◌, refl, sym, ap, ◌∙◌, subst}
use mathlib.Core.Logic.{◌⊎◌, inl, inr, ⊎_elim}
use mathlib.Core.Bool.{Bool, true, false, ◌&&◌}
use native.Mathlib.Nat.{eq-or-lt_of_le}
use native.Mathlib.Decide.{dec_le}
use native.Mathlib.Omega.{arith, ne_cases}
use lib.IntN.{pos, nat_abs}
use Rattle.base.specs.Tests.{one, one_le}
use Rattle.base.specs.Greatest.{most_to, most_below, most_ext, greatest}
use Rattle.base.specs.Sum.{sum_to_none, sum_to_more, sum_to_ext, sum_to_mono, sum_to_bound, sum_to_zero}
use Rattle.order.specs.declared.Vector.{Vector}
use Rattle.order.specs.Vectors.{vec, city_block, Within, Precedes, same?, same_yes, same_self, vector_count}
use Rattle.order.specs.Vectors.Precedes.{nearer}
use Rattle.order.specs.Preference.{preferred}
use Rattle.order.proofs.Order.{stands, inside, in_order, precedes_trans, precedes_irrefl, first_still}
use Rattle.reading.specs.Reading.{voters, votes, majority, Most}

-- ---- the test that two vectors are one

pub same_no : (u v : Vector) → same? u v ≡ false → u ≡ v → ⊥
same_no u v e q =
    let t : true ≡ false = sym (same_self u) ∙ ap (same? u) q ∙ e in
    let z : ◌≡◌ {A = ℕ} 0 1 = cc in
    omega arith

-- ---- votes

module _ (voting : ℕ → Bool) where
  pub votes_none : (has : ℕ → Vector) (v : Vector) → votes voting has 0 v ≡ 0
  unfolding votes voters
  votes_none has v = sum_to_none _

  pub votes_more : (has : ℕ → Vector) (n : ℕ) (v : Vector) → votes voting has (n + 1) v ≡ votes voting has n v + one (voting n && same? (has n) v)
  unfolding votes voters
  votes_more has n v = sum_to_more _ n

  pub votes_few : (has : ℕ → Vector) (n : ℕ) (v : Vector) → votes voting has n v ≤ n
  unfolding votes voters
  votes_few has n v = omega (arith, sum_to_bound 1 _ n (λ i h. one_le (voting i && same? (has i) v)))

  pub votes_ext : (f g : ℕ → Vector) (n : ℕ) → ((k : ℕ) → k < n → f k ≡ g k) → (v : Vector) → votes voting f n v ≡ votes voting g n v
  unfolding votes voters
  votes_ext f g n e v = sum_to_ext _ _ n (λ k h. ap (λ (u : Vector). one (voting k && same? u v)) (e k h))

  -- a vector that no voter has
  pub votes_outside : (has : ℕ → Vector) (u : Vector) (n : ℕ) → ((k : ℕ) → k < n → voting k ≡ true → has k ≡ u → ⊥) → votes voting has n u ≡ 0
  unfolding votes voters
  votes_outside has u n h = sum_to_zero _ n (λ k l. none k l (voting k) refl (same? (has k) u) refl)
    where
      none : (k : ℕ) → k < n → (a : Bool) → voting k ≡ a → (b : Bool) → same? (has k) u ≡ b → one (a && b) ≡ 0
      none k l true e true q = absurd (h k l e (same_yes (has k) u q))
      none k l true e false q = refl
      none k l false e b q = refl

  -- no vector has more votes than there are voters
  pub votes_blank : (has : ℕ → Vector) (n : ℕ) (v : Vector) → voters voting n ≡ 0 → votes voting has n v ≡ 0
  unfolding votes voters
  votes_blank has n v e = omega (arith, sum_to_mono _ _ n (λ k l. both (voting k) (same? (has k) v)))
    where
      both : (a b : Bool) → one (a && b) ≤ one a
      both true b = one_le b
      both false b = omega arith

  pub majority_ext : (f g : ℕ → Vector) (n : ℕ) → ((k : ℕ) → k < n → f k ≡ g k) → majority voting f n ≡ majority voting g n
  unfolding majority
  majority_ext f g n e = ap preferred (most_ext _ _ vector_count (λ k h. votes_ext f g n e (preferred k)))

-- ---- the majority

dec_within : (v : Vector) → Dec (Within 16 v)
dec_within v = go (dec_le (nat_abs v.dy) 16) (dec_le (nat_abs v.dx) 16)
  where
    go : Dec (nat_abs v.dy ≤ 16) → Dec (nat_abs v.dx ≤ 16) → Dec (Within 16 v)
    go (yes a) (yes b) = yes (record { down = a; across = b })
    go (no a) b = no (λ w. a w.down)
    go (yes a) (no b) = no (λ w. b w.across)

-- (0,0) precedes every vector outside the window
far : (u : Vector) → (Within 16 u → ⊥) → Precedes (preferred 0) u
far u w = rw first_still (nearer (go (dec_le 1 (city_block u))))
  where
    go : Dec (1 ≤ city_block u) → 0 < city_block u
    go (yes h) = h
    go (no h) = absurd (w (record { down = omega (arith, h); across = omega (arith, h) }))

module _ (voting : ℕ → Bool) (has : ℕ → Vector) (n : ℕ) where
  -- what Most says of another vector
  abbrev Behind : Vector → Vector → Type 0
  Behind v u = (votes voting has n u < votes voting has n v) ⊎ ((votes voting has n u ≡ votes voting has n v) × Precedes v u)

  abbrev score : ℕ → ℕ
  score k = votes voting has n (preferred k)

  -- the place of the majority in the table
  abbrev top : ℕ
  top = most_to score vector_count

  at_place : (k : ℕ) → k < vector_count → (k ≡ top → ⊥) → Behind (preferred top) (preferred k)
  at_place k h ne =
      let g = greatest score vector_count k h in
      ne_cases k top _ ne (λ l. inl (g.1 l))
      (λ l. ⊎_elim (λ e. inr (e, in_order top k l h)) inl (eq-or-lt_of_le g.0))

  within : (u : Vector) → Within 16 u → (u ≡ preferred top → ⊥) → Behind (preferred top) u
  within u w ne =
      let s = stands u w in
      subst (Behind (preferred top)) s.2 (at_place s.0 s.1 (λ e. ne (sym s.2 ∙ ap preferred e)))

  -- where no vector has votes, the first is kept
  first : score top ≡ 0 → top ≡ 0
  first e = go (dec_le 1 top)
    where
      go : Dec (1 ≤ top) → top ≡ 0
      go (yes h) = absurd (omega (arith, (greatest score vector_count 0 (omega arith)).1 h))
      go (no h) = omega (arith, h)

  outside : (u : Vector) → (Within 16 u → ⊥) → votes voting has n u ≡ 0 → Behind (preferred top) u
  outside u w z = go (dec_le 1 (score top))
    where
      go : Dec (1 ≤ score top) → Behind (preferred top) u
      go (yes h) = inl (omega (arith, z))
      go (no h) = let e : score top ≡ 0 = omega (arith, h) in inr (z ∙ sym e, subst (λ (k : ℕ). Precedes (preferred k) u) (sym (first e)) (far u w))

  pub majority_most : ((k : ℕ) → k < n → voting k ≡ true → Within 16 (has k)) → Most voting has n (majority voting has n)
  unfolding majority
  majority_most all = record { most = λ u ne. other u ne (dec_within u) }
    where
      other : (u : Vector) → (u ≡ preferred top → ⊥) → Dec (Within 16 u) → Behind (preferred top) u
      other u ne (yes w) = within u w ne
      other u ne (no w) = outside u w (votes_outside voting has u n (λ k l t q. w (subst (Within 16) q (all k l t))))

  pub majority_blank : voters voting n ≡ 0 → majority voting has n ≡ vec (pos 0) (pos 0)
  unfolding majority
  majority_blank e = ap preferred (first (votes_blank voting has n (preferred top) e)) ∙ first_still

  pub majority_within : Within 16 (majority voting has n)
  unfolding majority
  majority_within = inside top (most_below score 1088)

  pub most_unique : (u v : Vector) → Most voting has n u → Most voting has n v → u ≡ v
  most_unique u v a b = go (same? u v) refl
    where
      clash : Behind v u → Behind u v → ⊥
      clash (inl l) (inl m) = omega arith
      clash (inl l) (inr m) = omega arith
      clash (inr l) (inl m) = omega arith
      clash (inr l) (inr m) = precedes_irrefl (precedes_trans l.1 m.1)

      go : (t : Bool) → same? u v ≡ t → u ≡ v
      go true e = same_yes u v e
      go false e = let ne = same_no u v e in absurd (clash (b.most u ne) (a.most v (λ q. ne (sym q))))
